use Rattle.std.proofs.Common.{◌≡◌, ℕ, ℤ, pos, List, Some, map, length, slice_get, slice_index_or}
use Rattle.brace_fold.proofs.rows.total_columns.Given as goal

abbrev pub invariant-loop-effect : goal.invariant-loop-effect
invariant-loop-effect l = record {
  long : length l.columns.items ≡ l.effect;
  each : (i : ℕ) (column : List ℤ) → slice_get l.columns.items i ≡ Some column → column ≡ map (λ r. slice_index_or r.now i (pos 0)) l.rows;
}
