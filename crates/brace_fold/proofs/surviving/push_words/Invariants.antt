use Rattle.std.proofs.Common.{◌≡◌, ◌≤◌, ◌<◌, ◌++◌, ◌∷◌, [], ℕ, ℤ, List, length, slice_index_or}
use Rattle.brace_model.specs.World.{number, value_at}
use Rattle.brace_fold.proofs.surviving.push_words.Given as goal

abbrev pub invariant-loop-k : goal.invariant-loop-k
invariant-loop-k l = record {
  long : length l.columns ≡ length l.initial.columns;
  done : (j : ℕ) (c : List ℤ) → j < l.k
      → slice_index_or l.columns j c ≡ slice_index_or l.initial.columns j
      c ++ number (value_at l.values j) ∷ [];
  left : (j : ℕ) (c : List ℤ) → l.k ≤ j → slice_index_or l.columns j c
      ≡ slice_index_or l.initial.columns j c;
}
