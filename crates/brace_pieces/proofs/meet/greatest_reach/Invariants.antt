use Rattle.std.proofs.Common.{◌≡◌, fold, take, pos}
use Rattle.std.specs.Int.{int_max}
use Rattle.brace_pieces.proofs.meet.greatest_reach.Given as goal

abbrev pub invariant-loop-class : goal.invariant-loop-class
invariant-loop-class l = l.greatest ≡ fold (λ r c. int_max r c.reach) (pos 0) (take l.class-index l.program.classes)
