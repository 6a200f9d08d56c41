use Rattle.brace_fold.specs.inner.Crowds.{AreTaken}
use Rattle.brace_fold.proofs.crowd.take_between.Given as goal

abbrev pub invariant-loop-k : goal.invariant-loop-k
invariant-loop-k l = AreTaken l.set l.words l.from l.initial.numbers.items
    → AreTaken l.set l.words l.k l.numbers.items
