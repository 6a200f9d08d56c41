-- Equal numbers stand together.
use Rattle.std.proofs.Common.{◌≡◌, ◌∙◌, ℕ, zero, suc, ◌+◌, ◌≤◌, ◌<◌, ℤ, true, List, [], ◌∷◌, length, get_or, slice_get, Some, sym, ap, subst, arith, inl, inr, int_le}
use Rattle.std.specs.Ordering.{int_eq}
use Rattle.std.proofs.lemmas.Bool.{cases_Bool}
use Rattle.brace_balance.specs.Loads.{never_falls, times}
use Rattle.brace_balance.proofs.Counts.{eq_told, le_same, le_both, count_yes, count_no, count_more}
use Rattle.brace_balance.proofs.Ordered.{tail_sorted, first_below, lower_first, twice_first, without_second, first_least, many_between, between_same}

-- ---- from places to counts

-- of a list that begins with s, equal numbers from the first place to place m
run_first : (d s : ℤ) (xs : List ℤ) (m : ℕ) → never_falls (s ∷ xs) ≡ true → m ≤ length xs
    → get_or (s ∷ xs) m d ≡ s → m < times s (s ∷ xs)
run_first d s xs m up low same =
    omega (arith, between_same s (s ∷ xs), many_between s s (s ∷ xs) m (twice_first s xs up) (got (s ∷ xs) m (omega (arith, low)) same))
  where
    got : (ys : List ℤ) (k : ℕ) → k < length ys → get_or ys k d ≡ s → slice_get ys k ≡ Some s
    got [] k low e = absurd (omega (arith, low))
    got (y ∷ ys) zero low e = ap Some e
    got (y ∷ ys) (suc k) low e = got ys k (omega (arith, low)) e

-- equal numbers at two places make a stack
pub run_counts : (d : ℤ) (xs : List ℤ) (i m : ℕ) → never_falls xs ≡ true → i + m < length xs
    → get_or xs (i + m) d ≡ get_or xs i d → m < times (get_or xs i d) xs
run_counts d [] i m up low same = absurd (omega (arith, low))
run_counts d (x ∷ xs) zero m up low same =
    let e : 0 + m ≡ m = omega arith in
    run_first d x xs m up (omega (arith, low)) (subst (λ k. get_or (x ∷ xs) k d ≡ x) e same)
run_counts d (x ∷ xs) (suc i) m up low same =
    let e : suc i + m ≡ suc (i + m) = omega arith in
    let h = run_counts d xs i m (tail_sorted x xs up) (omega (arith, low))
    (subst (λ k. get_or (x ∷ xs) k d ≡ get_or xs i d) e same) in
    more (get_or xs i d) h
  where
    more : (p : ℤ) → m < times p xs → m < times p (x ∷ xs)
    more p h = elim (cases_Bool (int_eq x p)) [
      | inl is ↦ omega (arith, h, count_yes (λ v. int_eq v p) x xs is)
      | inr isnt ↦ omega (arith, h, count_no (λ v. int_eq v p) x xs isnt)
    ]

-- ---- from counts to places

-- a number that is below the first is not there
absent : (q : ℤ) (xs : List ℤ) → never_falls (q ∷ xs) ≡ true → 0 < times q xs
    → (m : ℕ) → m < times q xs → (d : ℤ) → (m < length xs) × (get_or xs m d ≡ q)
absent q [] up some m low d = absurd (omega (arith, low))
absent q (x ∷ xs) up some zero low d = elim (cases_Bool (int_eq x q)) [
  | inl is ↦ (omega arith, eq_told x q is)
  | inr isnt ↦
      let e = count_no (λ v. int_eq v q) x xs isnt in
      let h = absent q xs (without_second q x xs up) (omega (arith, some, e)) 0 (omega (arith, some, e)) d in
      let le = first_least x d xs 1 (tail_sorted q (x ∷ xs) up) (omega (arith, h.0)) in
      (omega arith, le_both x q (subst (λ z. int_le x z ≡ true) h.1 le) (first_below q x xs up))
]
absent q (x ∷ xs) up some (suc m) low d =
    let few = count_more (λ v. int_eq v q) x xs in
    let h = absent q xs (without_second q x xs up) (omega (arith, low, few)) m (omega (arith, low, few)) d in
    (omega (arith, h.0), h.1)

-- a number that is there more than m times is at some place and m places further
pub record StandsAt (d : ℤ) (xs : List ℤ) (m : ℕ) (q : ℤ) : Type 0 where
  pub at : ℕ
  pub within : at + m < length xs
  pub first : get_or xs at d ≡ q
  pub last : get_or xs (at + m) d ≡ q

pub stack_stands : (d : ℤ) (xs : List ℤ) (m : ℕ) (q : ℤ) → never_falls xs ≡ true → m < times q xs
    → StandsAt d xs m q
stack_stands d [] m q up low = absurd (omega (arith, low))
stack_stands d (x ∷ xs) m q up low = elim (cases_Bool (int_eq x q)) [
  | inl is ↦
      let same = eq_told x q is in
      let e : 0 + m ≡ m = omega arith in
      let h = absent q (x ∷ xs) (lower_first q x xs (subst (λ z. int_le q z ≡ true) (sym same) (le_same q)) up)
      (omega (arith, low)) m low d in
      record {
        at = 0;
        within = omega (arith, h.0);
        first = same;
        last = ap (λ k. get_or (x ∷ xs) k d) e ∙ h.1;
      }
  | inr isnt ↦
      let h = stack_stands d xs m q (tail_sorted x xs up) (omega (arith, low, count_no (λ v. int_eq v q) x xs isnt)) in
      let e : suc h.at + m ≡ suc (h.at + m) = omega arith in
      record {
        at = suc h.at;
        within = omega (arith, h.within);
        first = h.first;
        last = ap (λ k. get_or (x ∷ xs) k d) e ∙ h.last;
      }
]
