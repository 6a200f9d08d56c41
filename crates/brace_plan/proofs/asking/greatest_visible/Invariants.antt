use Rattle.std.proofs.Common.{◌≡◌, fold, drop}
use Rattle.std.specs.Int.{int_max}
use Rattle.brace_plan.specs.Answers.{greatest_visible}
use Rattle.brace_plan.proofs.asking.greatest_visible.Given as goal

abbrev pub invariant-loop-class : goal.invariant-loop-class
invariant-loop-class l =
    fold (λ v c. int_max v c.visible) l.greatest (drop l.class-index l.program.classes) ≡ greatest_visible l.program
