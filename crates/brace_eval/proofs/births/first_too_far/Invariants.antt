use Rattle.std.proofs.Common.{◌≡◌, ◌<◌, ◌≤◌, ◌+◌, ◌++◌, take, min, ◌^◌, ◌-◌, length, ℕ, false}
use Rattle.brace_model.specs.Step.{count_values, goes_too_far}
use Rattle.brace_eval.proofs.births.first_too_far.Given as goal

abbrev pub invariant-loop-child : goal.invariant-loop-child
invariant-loop-child l = record {
  agents : l.agents ≡ min (length l.living + l.child-index) (2 ^ 64 - 1);
  values : l.values ≡ min (count_values (l.living ++ take l.child-index l.born)) (2 ^ 64 - 1);
  id : l.id ≡ min (l.next + l.child-index) (2 ^ 64 - 1);
  fits : l.next + l.child-index ≤ 2 ^ 63;
  before : (r : ℕ) → r < l.child-index → goes_too_far l.living l.next l.born r ≡ false;
}
