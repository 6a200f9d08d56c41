use Rattle.std.proofs.Common.{◌≡◌, map, take}
use Rattle.brace_comb.specs.Totals.{tally}
use Rattle.brace_watch.specs.Figures.{all_joined}
use Rattle.brace_watch.proofs.Counting.{tally_with}
use Rattle.brace_watch.proofs.count.all_joined.Given as goal

abbrev pub invariant-loop-total : goal.invariant-loop-total
invariant-loop-total l = tally_with l.kind l.number l.count ≡ all_joined l.kind
    (map tally (take l.total-index l.totals))
