use Rattle.std.proofs.Common.{◌≡◌, ◌≤◌, ◌<◌, ◌++◌, ℕ, ℤ, List, length, map, slice_index_or}
use Rattle.brace_fold.specs.inner.Rulings.{new_number, rows_of}
use Rattle.brace_fold.proofs.surviving.push_states.Given as goal

abbrev pub invariant-loop-state : goal.invariant-loop-state
invariant-loop-state l = record {
  long : length l.left ≡ length l.initial.left;
  done : (j : ℕ) (c : List ℤ) → j < l.state → slice_index_or l.left j c
      ≡ slice_index_or l.initial.left j c
      ++ map (new_number l.own l.class l.out l.columns j) (rows_of l.living);
  left : (j : ℕ) (c : List ℤ) → l.state ≤ j
      → slice_index_or l.left j c ≡ slice_index_or l.initial.left j c;
}
