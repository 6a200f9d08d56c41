use Rattle.std.proofs.Common.{◌≡◌, ◌<◌, ◌≤◌, ◌+◌, take, min, ◌^◌, ◌-◌, ℕ, false}
use Rattle.brace_pieces.specs.Censuses.{count_born, parent_too_far}
use Rattle.brace_herd.proofs.census.first_too_far.Given as goal

abbrev pub invariant-loop-parent : goal.invariant-loop-parent
invariant-loop-parent l = record {
  agents : l.agents ≡ min (l.all.living + l.parent-index) (2 ^ 64 - 1);
  values : l.values ≡ min (l.all.values + count_born l.program (take l.parent-index l.all.parents)) (2 ^ 64 - 1);
  id : l.id ≡ min (l.next + l.parent-index) (2 ^ 64 - 1);
  fits : l.next + l.parent-index ≤ 2 ^ 63;
  before : (r : ℕ) → r < l.parent-index → parent_too_far l.program l.next l.all r ≡ false;
}
