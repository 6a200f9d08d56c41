use Rattle.std.proofs.Common.{◌≡◌, ◌≤◌, List, map, take}
use Rattle.brace_model.specs.declared.world.Agent.{Agent}
use Rattle.brace_comb.specs.Totals.{tally_of}
use Rattle.brace_watch.specs.inner.Columns.{number_for, values_met, tested}
use Rattle.brace_watch.proofs.Counting.{tally_with}
use Rattle.brace_watch.proofs.count.total_of.Given as goal

abbrev pub invariant-loop-i : goal.invariant-loop-i
invariant-loop-i l = record {
  few : l.count ≤ l.i;
  so_far : (agents : List Agent) → l.tests ≡ map (number_for (tested l.watch.test)) agents
      → l.numbers ≡ map (number_for l.watch.field) agents
      → tally_with l.watch.kind l.number l.count ≡ tally_of l.watch.kind
      (values_met l.watch (take l.i agents));
}
