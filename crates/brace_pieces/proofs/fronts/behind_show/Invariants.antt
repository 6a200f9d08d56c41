use Rattle.std.proofs.Common.{◌≡◌, ◌+◌, ◌-◌, ◌≤◌, drop, length, slice_get}
use Rattle.brace_pieces.specs.Steps.{steps}
use Rattle.brace_pieces.specs.Fronts.{to_show}
use Rattle.brace_pieces.proofs.fronts.behind_show.Given as goal

abbrev pub invariant-loop-next : goal.invariant-loop-next
invariant-loop-next l = record {
  stands : l.next ≡ slice_get (steps l.setting) l.count;
  within : l.count ≤ length (steps l.setting);
  place : l.count + to_show (drop l.count (steps l.setting)) ≡ l.number + to_show (drop l.number (steps l.setting));
}

-- how many steps are left
abbrev pub decreases-loop-next : goal.decreases-loop-next
decreases-loop-next l = length (steps l.setting) - l.count
