use Rattle.std.proofs.Common.{◌+◌, ◌++◌, length}
use Rattle.brace_comb.proofs.Walks.{Walk}
use Rattle.brace_comb.proofs.merge.merged.Given as goal

abbrev pub invariant-loop-x : goal.invariant-loop-x
invariant-loop-x l = Walk (l.fn.a ++ l.fn.b) l.merged.items l.left l.right

abbrev pub decreases-loop-x : goal.decreases-loop-x
decreases-loop-x l = length l.left + length l.right
