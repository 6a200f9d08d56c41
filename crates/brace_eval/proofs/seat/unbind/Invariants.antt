use Rattle.std.proofs.Common.{◌≡◌}
use Rattle.brace_eval.specs.inner.Walks.{undone}
use Rattle.brace_eval.proofs.seat.unbind.Given as goal

abbrev pub invariant-loop-bound : goal.invariant-loop-bound
invariant-loop-bound l = undone l.trail.items l.locals ≡ undone l.fn.trail.items l.fn.locals

abbrev pub decreases-loop-bound : goal.decreases-loop-bound
decreases-loop-bound l = goal.left-loop-bound l
