use Rattle.std.proofs.Common.{◌≡◌, map}
use Rattle.brace_model.specs.Step.{count_values}
use Rattle.brace_save.specs.inner.Steps.{IsFront, front_length}
use Rattle.brace_save.proofs.read.read_agents.Given as goal

abbrev pub invariant-loop-i : goal.invariant-loop-i
invariant-loop-i l = record {
  at : l.i ≡ front_length l.fn.program l.fn.heading.tells_next l.agents.items;
  counted : l.values ≡ count_values l.agents.items;
  told : IsFront l.fn.program l.fn.heading l.agents.items (map (λ t. t.now) l.lines);
}
