use Rattle.std.proofs.Common.{◌≡◌, take}
use Rattle.brace_model.proofs.copy.copy_classes.Given as goal

abbrev pub invariant-loop-class : goal.invariant-loop-class
invariant-loop-class l = l.copy ≡ take l.class-index l.classes
