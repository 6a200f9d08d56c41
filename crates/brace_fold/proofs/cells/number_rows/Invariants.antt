use Rattle.std.proofs.Common.{◌≡◌, ◌≤◌, ◌<◌, ℕ, length, slice_index_or}
use Rattle.brace_fold.specs.declared.cells.Spot.{Spot}
use Rattle.brace_fold.specs.inner.Sights.{in_row}
use Rattle.brace_fold.proofs.cells.number_rows.Given as goal

abbrev pub invariant-loop-k : goal.invariant-loop-k
invariant-loop-k l = record {
  long : length l.spots ≡ length l.initial.spots;
  done : (j : ℕ) (d : Spot) → j < l.k → slice_index_or l.spots j d ≡ in_row j (slice_index_or l.initial.spots j d);
  left : (j : ℕ) (d : Spot) → l.k ≤ j → slice_index_or l.spots j d ≡ slice_index_or l.initial.spots j d;
}
