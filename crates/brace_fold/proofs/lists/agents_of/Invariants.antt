use Rattle.std.proofs.Common.{◌≡◌, map}
use Rattle.std.specs.List.{range_with_len}
use Rattle.brace_fold.specs.Rows.{row_in}
use Rattle.brace_fold.proofs.lists.agents_of.Given as goal

abbrev pub invariant-loop-k : goal.invariant-loop-k
invariant-loop-k l = l.agents.items ≡ map (row_in l.program l.columns) (range_with_len 0 l.k)
