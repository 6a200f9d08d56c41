use Rattle.std.proofs.Common.{◌<◌, ◌≤◌, ◌-◌, ℕ, ◌<ℤ◌, length, get_or}
use Rattle.brace_fold.specs.declared.cells.Spot.{Spot}
use Rattle.brace_fold.proofs.cells.rank.Given as goal

abbrev pub invariant-loop-at : goal.invariant-loop-at
invariant-loop-at l = record {
  within : l.at ≤ length l.spots;
  front : (k : ℕ) (d : Spot) → k < l.at → (get_or l.spots k d).cell <ℤ l.cell;
}

abbrev pub decreases-loop-at : goal.decreases-loop-at
decreases-loop-at l = length l.spots - l.at
