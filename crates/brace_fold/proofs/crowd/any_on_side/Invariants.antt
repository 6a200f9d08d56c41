use Rattle.std.proofs.Common.{◌≡◌, false}
use Rattle.brace_fold.specs.inner.Crowds.{IsNoneOnSide}
use Rattle.brace_fold.proofs.crowd.any_on_side.Given as goal

abbrev pub invariant-loop-k : goal.invariant-loop-k
invariant-loop-k l = l.found ≡ false → IsNoneOnSide l.set l.words l.from l.k
