use Rattle.std.proofs.Common.{◌≡◌, take, true}
use Rattle.std.specs.List.{list_all}
use Rattle.brace_pieces.specs.Numbers.{class_fits}
use Rattle.brace_pieces.proofs.numbers.classes_fit.Given as goal

abbrev pub invariant-loop-class : goal.invariant-loop-class
invariant-loop-class l = list_all class_fits (take l.class-index l.classes) ≡ true
