use Rattle.std.proofs.Common.{◌≡◌, ℕ, ℤ, List, Some, map, length, slice_get}
use Rattle.brace_model.specs.World.{number, value_at}
use Rattle.brace_fold.proofs.columns.state_columns.Given as goal

abbrev pub invariant-loop-place : goal.invariant-loop-place
invariant-loop-place l = record {
  long : length l.columns.items ≡ l.place;
  each : (i : ℕ) (column : List ℤ) → slice_get l.columns.items i ≡ Some column → column ≡ map (λ s. number (value_at s.now i)) l.states;
}
