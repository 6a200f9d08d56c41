use Rattle.std.proofs.Common.{◌≡◌, false, take}
use Rattle.brace_fold.specs.inner.Crowds.{AreOfClass}
use Rattle.brace_fold.proofs.groups.are_of_class.Given as goal

abbrev pub invariant-loop-row : goal.invariant-loop-row
invariant-loop-row l = l.others ≡ false → AreOfClass l.classes l.class (take l.row-index l.rows)
