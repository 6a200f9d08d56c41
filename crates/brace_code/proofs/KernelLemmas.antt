-- What holds word after word.
use Rattle.std.proofs.Common.{◌≡◌, ◌∙◌, sym, ap, subst, arith, ℕ, ◌+◌, ◌<◌, ◌≤◌, ℤ, pos, to_z, of_z, w64, Bool, false, List, [], ◌∷◌, ◌++◌, length, slice_index_or, ⊎_elim}
use Rattle.std.proofs.lemmas.Bool.{cases_lt}
use Rattle.std.proofs.lemmas.List.{get_or_append_left, get_or_at}

-- one word more that an operation made of two others
module _ (Q : ℤ → ℤ → ℤ → Bool → Type 0) (a b : ℕ → ℤ) where
  abbrev Made : List ℤ → ℕ → Type 0
  Made words k = Q (a k) (b k) (slice_index_or words k (pos 0)) false

  pub made_last : (words after : List ℤ) (n : ℕ) (x y made word : ℤ) (fails : Bool)
      → length words ≡ n → after ≡ words ++ word ∷ [] → ((k : ℕ) → k < n → Made words k)
      → Q x y made fails → x ≡ a n → y ≡ b n → word ≡ made → fails ≡ false
      → (k : ℕ) → k < n + 1 → Made after k
  made_last words after n x y made word fails long is before now first second same quiet k low =
      let at : ℕ → ℤ = λ i. slice_index_or after i (pos 0) in
      ⊎_elim
      (λ (l : k < n). subst (λ (w : ℤ). Q (a k) (b k) w false)
      (sym (ap (λ (c : List ℤ). slice_index_or c k (pos 0)) is
      ∙ get_or_append_left words (word ∷ []) (pos 0) k (omega (arith, l, long)))) (before k l))
      (λ (l : n ≤ k).
      let here : n ≡ k = omega (arith, low, l) in
      let last : at n ≡ made = ap (λ (c : List ℤ). slice_index_or c n (pos 0)) is
      ∙ get_or_at words word [] (pos 0) n long ∙ same in
      let told : Q (a n) (b n) made false = subst (λ (f : Bool). Q (a n) (b n) made f) quiet
      (subst (λ (z : ℤ). Q (a n) z made fails) second
      (subst (λ (z : ℤ). Q z y made fails) first now)) in
      subst (Made after) here (subst (λ (w : ℤ). Q (a n) (b n) w false) (sym last) told))
      (cases_lt k n)

-- ---- words at rows

-- the word at the row of a place
abbrev pub word_at : List ℕ → List ℤ → ℕ → ℤ
word_at rows column k = slice_index_or column (slice_index_or rows k 0) (pos 0)

-- so many words are those that an operation makes of words at rows
abbrev pub AreMade : (ℤ → ℤ → ℤ × Bool → Type 0) → List ℕ → List ℤ → List ℕ → List ℤ → List ℤ
    → ℕ → Type 0
AreMade Q rows column others other words n = (k : ℕ) → k < n
    → Q (word_at rows column k) (word_at others other k) (slice_index_or words k (pos 0), false)

-- one word more
pub row_made : (n : ℕ) (Q : ℤ → ℤ → ℤ × Bool → Type 0) (rows others : List ℕ)
    (column other words after : List ℤ) (made word : ℤ) (fails : Bool)
    → length words ≡ n → after ≡ words ++ word ∷ [] → AreMade Q rows column others other words n
    → Q (to_z w64 (of_z w64 (word_at rows column n))) (to_z w64 (of_z w64 (word_at others other n)))
    (made, fails)
    → to_z w64 (of_z w64 (word_at rows column n)) ≡ word_at rows column n
    → to_z w64 (of_z w64 (word_at others other n)) ≡ word_at others other n
    → word ≡ made → fails ≡ false
    → AreMade Q rows column others other after (n + 1)
row_made n Q rows others column other words after made word fails long is before now first
    second =
    made_last (λ x y w f. Q x y (w, f)) (word_at rows column) (word_at others other) words after n
    (to_z w64 (of_z w64 (word_at rows column n))) (to_z w64 (of_z w64 (word_at others other n)))
    made word fails long is before now first second
