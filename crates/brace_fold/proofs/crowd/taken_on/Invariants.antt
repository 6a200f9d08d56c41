use Rattle.std.proofs.Common.{◌*◌}
use Rattle.brace_fold.specs.inner.Crowds.{AreTaken}
use Rattle.brace_fold.proofs.crowd.taken_on.Given as goal

abbrev pub invariant-loop-eight : goal.invariant-loop-eight
invariant-loop-eight l = AreTaken l.set l.words (8 * l.eight) l.numbers.items
