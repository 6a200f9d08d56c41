use Rattle.std.proofs.Common.{◌≤◌, ◌-◌, length, take}
use Rattle.brace_fold.specs.inner.Crowds.{AreOfClass}
use Rattle.brace_fold.proofs.groups.class_end.Given as goal

abbrev pub invariant-loop-count : goal.invariant-loop-count
invariant-loop-count l = record {
  within : l.count ≤ length l.rows;
  of_class : AreOfClass l.classes l.class (take l.count l.rows);
}

abbrev pub decreases-loop-count : goal.decreases-loop-count
decreases-loop-count l = length l.rows - l.count
