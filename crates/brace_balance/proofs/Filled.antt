-- Strips filled from the left: how many there are, that their cuts rise, what load they have, and
-- that they are posts.
use Rattle.std.proofs.Common.{◌≡◌, ◌∙◌, ℕ, zero, suc, ◌+◌, ◌-◌, ◌≤◌, ◌<◌, ℤ, Bool, true, false, ◌&&◌, List, [], ◌∷◌, length, slice_get, Some, None, refl, sym, ap, subst, arith, inl, inr, int_le, nat_eq, nat_le}
use Rattle.std.specs.Prelude.{int_lt}
use Rattle.std.specs.List.{range_with_len}
use Rattle.std.specs.Ordering.{int_eq}
use Rattle.std.proofs.lemmas.Bool.{cases_Bool, and_parts, and_from, eqb-true, leb-true, le-leb, ne_eqb}
use Rattle.std.proofs.lemmas.Bool.Decides.{nat_tests}
use Rattle.std.proofs.lemmas.List.Sums.{count_by-le-length}
use Rattle.brace_cuts.specs.Space.{rises, strip}
use Rattle.brace_balance.specs.Loads.{never_falls, in_strip, load, between, posts_hold}
use Rattle.brace_balance.specs.Fillings.{not_below, cut_at, filled, HasNoStack}
use Rattle.brace_balance.proofs.Counts.{le_on, lt_le, not_le, lt_differ, count_yes, count_no, count_weaker, count_filtered, count_kept}
use Rattle.brace_balance.proofs.Ordered.{twice_first, above_first, all_kept, rest_sorted, rest_begins, few_below, many_between, between_same}
use Rattle.brace_balance.proofs.Refusals.{greatest_within}

-- ---- one strip more

pub filled_end : (n k : ℕ) (xs : List ℤ) → slice_get xs n ≡ None → filled n k xs ≡ []
filled_end n zero xs is = refl
filled_end n (suc k) xs is = ap (λ o. cut_at o (λ c. filled n k (not_below c xs))) is

pub filled_next : (n k : ℕ) (xs : List ℤ) (c : ℤ) → slice_get xs n ≡ Some c
    → filled n (suc k) xs ≡ c ∷ filled n k (not_below c xs)
filled_next n k xs c is = ap (λ o. cut_at o (λ z. filled n k (not_below z xs))) is

-- the same where i of m strips are filled
pub filled_step : (n m i : ℕ) (xs : List ℤ) (c : ℤ) → i < m → slice_get xs n ≡ Some c
    → filled n (m - i) xs ≡ c ∷ filled n (m - (i + 1)) (not_below c xs)
filled_step n m i xs c low is =
    let e : m - i ≡ suc (m - (i + 1)) = omega (arith, low) in
    ap (λ k. filled n k xs) e ∙ filled_next n (m - (i + 1)) xs c is

-- a number at a place, or none there
pub data Place (xs : List ℤ) (n : ℕ) : Type 0 where
  none : slice_get xs n ≡ None → length xs ≤ n → Place xs n
  some : (c : ℤ) → slice_get xs n ≡ Some c → Place xs n

pub place : (xs : List ℤ) (n : ℕ) → Place xs n
place [] n = none refl (omega arith)
place (x ∷ xs) zero = some x refl
place (x ∷ xs) (suc n) = elim (place xs n) [
  | none is short ↦ none is (omega (arith, short))
  | some c is ↦ some c is
]

pub filled_within : (n k : ℕ) (xs : List ℤ) → length (filled n k xs) ≤ k
filled_within n zero xs = omega arith
filled_within n (suc k) xs = elim (place xs n) [
  | none is short ↦ omega (arith, ap length (filled_end n (suc k) xs is))
  | some c is ↦ omega (arith, ap length (filled_next n k xs c is), filled_within n k (not_below c xs))
]

-- where the first strip can't be filled, neither can those behind it
pub stuck : (n k : ℕ) (s : ℤ) (xs : List ℤ) → never_falls (s ∷ xs) ≡ true
    → slice_get (s ∷ xs) n ≡ Some s → length (filled n k (s ∷ xs)) ≡ k
stuck n zero s xs up is = refl
stuck n (suc k) s xs up is =
    let all = all_kept s (s ∷ xs) (twice_first s xs up) in
    ap length (filled_next n k (s ∷ xs) s is)
    ∙ ap (λ l. suc (length (filled n k l))) all ∙ ap suc (stuck n k s xs up is)

-- all numbers in one strip
pub one_suffices : (k : ℕ) (xs : List ℤ) → 0 < k → length (filled (length xs) k xs) < k
one_suffices k xs low = elim (place xs (length xs)) [
  | none is short ↦ omega (arith, low, ap length (filled_end (length xs) k xs is))
  | some c is ↦ absurd (omega (arith, past xs c is))
]
  where
    past : (ys : List ℤ) (c : ℤ) → slice_get ys (length ys) ≡ Some c → 1 ≤ 0
    past [] c is = absurd (cc)
    past (y ∷ ys) c is = past ys c is

-- ---- their cuts rise

pub filled_rises : (n k : ℕ) (s : ℤ) (xs : List ℤ) → never_falls (s ∷ xs) ≡ true
    → length (filled n k (s ∷ xs)) < k → rises (s ∷ filled n k (s ∷ xs)) ≡ true
filled_rises n zero s xs up short = absurd (omega (arith, short))
filled_rises n (suc k) s xs up short = elim (place (s ∷ xs) n) [
  | none is low ↦ subst (λ l. rises (s ∷ l) ≡ true) (sym (filled_end n (suc k) (s ∷ xs) is)) refl
  | some c is ↦
      let next = filled_next n k (s ∷ xs) c is in
      let there = rest_begins c (s ∷ xs) n up is in
      let up' = subst (λ l. never_falls l ≡ true) there.is (rest_sorted c (s ∷ xs) up) in
      let short' = subst (λ l. length (filled n k l) < k) there.is (omega (arith, short, ap length next)) in
      let rest = subst (λ l. rises (c ∷ filled n k l) ≡ true) (sym there.is) (filled_rises n k c there.others up' short') in
      let lt = lt_differ s c (above_first s (s ∷ xs) n c (twice_first s xs up) is) (λ same.
      absurd (omega (arith, short, stuck n (suc k) s xs up (is ∙ ap Some (sym same))))) in
      subst (λ l. rises (s ∷ l) ≡ true) (sym next)
      (and_from (int_lt s c) (rises (c ∷ filled n k (not_below c (s ∷ xs)))) lt rest)
]

pub tail_rises : (c : ℤ) (cuts : List ℤ) → rises (c ∷ cuts) ≡ true → rises cuts ≡ true
tail_rises c [] up = refl
tail_rises c (d ∷ cuts) up = (and_parts (int_lt c d) (rises (d ∷ cuts)) up).1

pub cuts_rise : (n k : ℕ) (xs : List ℤ) → never_falls xs ≡ true → length (filled n k xs) < k
    → rises (filled n k xs) ≡ true
cuts_rise n k [] up short = subst (λ l. rises l ≡ true) (sym (filled_end n k [] refl)) refl
cuts_rise n k (s ∷ xs) up short = tail_rises s (filled n k (s ∷ xs)) (filled_rises n k s xs up short)

-- ---- their load

-- below the first cut no cut is reached
strip_none : (c v : ℤ) (cuts : List ℤ) → rises (c ∷ cuts) ≡ true → int_le c v ≡ false
    → strip (c ∷ cuts) v ≡ 0
strip_none c v [] up isnt = count_no (λ z. int_le z v) c [] isnt
strip_none c v (d ∷ cuts) up isnt =
    let (lt, rest) = and_parts (int_lt c d) (rises (d ∷ cuts)) up in
    count_no (λ z. int_le z v) c (d ∷ cuts) isnt ∙ strip_none d v cuts rest (above c d v lt isnt)
  where
    above : (c d v : ℤ) → int_lt c d ≡ true → int_le c v ≡ false → int_le d v ≡ false
    above c d v lt isnt = elim (cases_Bool (int_le d v)) [
      | inl is ↦ absurd (let e = le_on c d v (lt_le c d lt) is in cc (sym e ∙ isnt))
      | inr still ↦ still
    ]

-- a number is in strip i + 1 where it is not below the first cut and in strip i of the others
strip_behind : (c : ℤ) (cuts : List ℤ) (i : ℕ) → rises (c ∷ cuts) ≡ true → (v : ℤ)
    → nat_eq (strip (c ∷ cuts) v) (suc i) ≡ (int_le c v && nat_eq (strip cuts v) i)
strip_behind c cuts i up v = by_test (int_le c v) refl
  where
    successors : (a b : ℕ) → nat_eq (suc a) (suc b) ≡ nat_eq a b
    successors a b = grind (arith, nat_tests)

    by_test : (t : Bool) → int_le c v ≡ t
        → nat_eq (strip (c ∷ cuts) v) (suc i) ≡ (t && nat_eq (strip cuts v) i)
    by_test true is = ap (λ m. nat_eq m (suc i)) (count_yes (λ z. int_le z v) c cuts is) ∙ successors (strip cuts v) i
    by_test false isnt = ap (λ m. nat_eq m (suc i)) (strip_none c v cuts up isnt)
        ∙ ne_eqb 0 (suc i) (λ e. omega (arith, e))

-- what is in the first strip is below the first cut
first_strip : (c : ℤ) (cuts : List ℤ) (v : ℤ) → nat_eq (strip (c ∷ cuts) v) 0 ≡ true
    → int_lt v c ≡ true
first_strip c cuts v is = elim (cases_Bool (int_le c v)) [
  | inl le ↦ absurd (omega (arith, eqb-true (strip (c ∷ cuts) v) 0 is, count_yes (λ z. int_le z v) c cuts le))
  | inr gt ↦ not_le v c gt
]

filled_strips : (n k : ℕ) (xs : List ℤ) → never_falls xs ≡ true → length (filled n k xs) < k
    → rises (filled n k xs) ≡ true → (i : ℕ) → in_strip (filled n k xs) xs i ≤ n
filled_strips n zero xs up short rise i = absurd (omega (arith, short))
filled_strips n (suc k) xs up short rise i = elim (place xs n) [
  | none is low ↦ omega (arith, low, count_by-le-length (λ v. nat_eq (strip (filled n (suc k) xs) v) i) xs)
  | some c is ↦
      let next = filled_next n k xs c is in
      let rise' = subst (λ l. rises l ≡ true) next rise in
      let short' : length (filled n k (not_below c xs)) < k = omega (arith, short, ap length next) in
      subst (λ l. in_strip l xs i ≤ n) (sym next)
      (by_strip c is rise' i (filled_strips n k (not_below c xs) (rest_sorted c xs up) short' (tail_rises c _ rise')))
]
  where
    by_strip : (c : ℤ) → slice_get xs n ≡ Some c → rises (c ∷ filled n k (not_below c xs)) ≡ true
        → (j : ℕ) → ((m : ℕ) → in_strip (filled n k (not_below c xs)) (not_below c xs) m ≤ n)
        → in_strip (c ∷ filled n k (not_below c xs)) xs j ≤ n
    by_strip c is rise' zero rest =
        let le = count_weaker (λ v. nat_eq (strip (c ∷ filled n k (not_below c xs)) v) 0) (λ v. int_lt v c) xs
        (first_strip c (filled n k (not_below c xs))) in
        omega (arith, le, few_below c xs n up is)
    by_strip c is rise' (suc j) rest =
        let e = count_filtered (λ v. nat_eq (strip (c ∷ filled n k (not_below c xs)) v) (suc j)) (λ v. int_le c v)
        (λ v. nat_eq (strip (filled n k (not_below c xs)) v) j) xs (strip_behind c (filled n k (not_below c xs)) j rise') in
        omega (arith, e, rest j)

-- filled strips that are enough have at most the load
pub filled_loads : (n k : ℕ) (xs : List ℤ) → never_falls xs ≡ true → length (filled n k xs) < k
    → load (filled n k xs) xs ≤ n
filled_loads n k xs up short = greatest_within (in_strip (filled n k xs) xs) n
    (range_with_len 0 (length (filled n k xs) + 1))
    (filled_strips n k xs up short (cuts_rise n k xs up short))

-- ---- posts

-- what holds of some of the numbers holds of all
hold_more : (m : ℕ) (xs ys posts : List ℤ) → ((p q : ℤ) → between p q ys ≤ between p q xs)
    → posts_hold m ys posts ≡ true → posts_hold m xs posts ≡ true
hold_more m xs ys (p ∷ q ∷ posts) more h =
    let (here, later) = and_parts (nat_le m (between p q ys)) (posts_hold m ys (q ∷ posts)) h in
    and_from (nat_le m (between p q xs)) (posts_hold m xs (q ∷ posts))
    (le-leb m (between p q xs) (omega (arith, more p q, leb-true m (between p q ys) here)))
    (hold_more m xs ys (q ∷ posts) more later)
hold_more m xs ys _ more h = refl

-- where no number is there more than n times, the first numbers of strips filled with n rise, and
-- more than n numbers are between each and the next
pub filled_posts : (n k : ℕ) (s : ℤ) (xs : List ℤ) → never_falls (s ∷ xs) ≡ true
    → HasNoStack (s ∷ xs) (suc n) → (rises (s ∷ filled n k (s ∷ xs)) ≡ true)
    × (posts_hold (suc n) (s ∷ xs) (s ∷ filled n k (s ∷ xs)) ≡ true)
filled_posts n zero s xs up few = (refl, refl)
filled_posts n (suc k) s xs up few = elim (place (s ∷ xs) n) [
  | none is low ↦ subst (λ l. (rises (s ∷ l) ≡ true) × (posts_hold (suc n) (s ∷ xs) (s ∷ l) ≡ true))
      (sym (filled_end n (suc k) (s ∷ xs) is)) (refl, refl)
  | some c is ↦
      let ys = s ∷ xs in
      let there = rest_begins c ys n up is in
      let up' = subst (λ l. never_falls l ≡ true) there.is (rest_sorted c ys up) in
      let few' = subst (λ l. HasNoStack l (suc n)) there.is (λ q. omega (arith, few q, count_kept (λ v. int_eq v q) (λ v. int_le c v) ys)) in
      let rest = subst (λ l. (rises (c ∷ filled n k l) ≡ true) × (posts_hold (suc n) l (c ∷ filled n k l) ≡ true))
      (sym there.is) (filled_posts n k c there.others up' few') in
      let many = many_between s c ys n (twice_first s xs up) is in
      let lt = lt_differ s c (above_first s ys n c (twice_first s xs up) is) (λ same.
      omega (arith, few s, between_same s ys, subst (λ z. n < between s z ys) (sym same) many)) in
      subst (λ l. (rises (s ∷ l) ≡ true) × (posts_hold (suc n) ys (s ∷ l) ≡ true)) (sym (filled_next n k ys c is)) (
        and_from (int_lt s c) (rises (c ∷ filled n k (not_below c ys))) lt rest.0,
        and_from (nat_le (suc n) (between s c ys)) (posts_hold (suc n) ys (c ∷ filled n k (not_below c ys)))
            (le-leb (suc n) (between s c ys) many)
            (hold_more (suc n) ys (not_below c ys) (c ∷ filled n k (not_below c ys))
            (λ p q. count_kept (λ v. int_le p v && int_le v q) (λ v. int_le c v) ys) rest.1),
      )
]
