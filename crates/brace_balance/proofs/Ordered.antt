-- Numbers that do not fall: what is not below one of them, and how many are.
use Rattle.std.proofs.Common.{◌≡◌, ◌∙◌, ℕ, zero, suc, ◌≤◌, ◌<◌, ℤ, Bool, true, false, cond, ◌&&◌, List, [], ◌∷◌, length, get_or, slice_get, drop, Some, refl, sym, ap, subst, arith, inl, inr, int_le}
use Rattle.std.specs.Prelude.{int_lt}
use Rattle.std.specs.List.{count_by, filter}
use Rattle.std.specs.List.Sorted.{IsPartitionedBy}
use Rattle.std.proofs.lemmas.Bool.{cases_Bool, and_parts, and_from}
use Rattle.brace_balance.specs.Loads.{never_falls, between, times}
use Rattle.brace_balance.specs.Fillings.{not_below}
use Rattle.brace_balance.proofs.Counts.{eq_holds, le_same, le_on, le_both, lt_not, not_le, le_not_lt, count_yes, count_no, count_more, count_weaker}

-- ---- fronts and tails

pub tail_sorted : (x : ℤ) (xs : List ℤ) → never_falls (x ∷ xs) ≡ true → never_falls xs ≡ true
tail_sorted x [] up = refl
tail_sorted x (y ∷ xs) up = (and_parts (int_le x y) (never_falls (y ∷ xs)) up).1

pub first_below : (x y : ℤ) (xs : List ℤ) → never_falls (x ∷ y ∷ xs) ≡ true → int_le x y ≡ true
first_below x y xs up = (and_parts (int_le x y) (never_falls (y ∷ xs)) up).0

-- a lower number, or one as high, may stand in front
pub lower_first : (s x : ℤ) (xs : List ℤ) → int_le s x ≡ true → never_falls (x ∷ xs) ≡ true
    → never_falls (s ∷ x ∷ xs) ≡ true
lower_first s x xs le up = and_from (int_le s x) (never_falls (x ∷ xs)) le up

pub twice_first : (s : ℤ) (xs : List ℤ) → never_falls (s ∷ xs) ≡ true
    → never_falls (s ∷ s ∷ xs) ≡ true
twice_first s xs up = lower_first s s xs (le_same s) up

-- the second may be left out
pub without_second : (s x : ℤ) (xs : List ℤ) → never_falls (s ∷ x ∷ xs) ≡ true
    → never_falls (s ∷ xs) ≡ true
without_second s x [] up = refl
without_second s x (y ∷ xs) up =
    let rest = tail_sorted s (x ∷ y ∷ xs) up in
    lower_first s y xs (le_on s x y (first_below s x (y ∷ xs) up) (first_below x y xs rest))
    (tail_sorted x (y ∷ xs) rest)

-- none is below the first
pub above_first : (s : ℤ) (xs : List ℤ) (i : ℕ) (v : ℤ) → never_falls (s ∷ xs) ≡ true
    → slice_get xs i ≡ Some v → int_le s v ≡ true
above_first s [] i v up is = absurd (cc)
above_first s (x ∷ xs) zero v up is =
    let same : x ≡ v = cc in subst (λ z. int_le s z ≡ true) same (first_below s x xs up)
above_first s (x ∷ xs) (suc i) v up is = above_first s xs i v (without_second s x xs up) is

pub first_least : (s d : ℤ) (xs : List ℤ) (k : ℕ) → never_falls (s ∷ xs) ≡ true → k ≤ length xs
    → int_le s (get_or (s ∷ xs) k d) ≡ true
first_least s d xs zero up low = le_same s
first_least s d [] (suc k) up low = absurd (omega (arith, low))
first_least s d (x ∷ xs) (suc k) up low =
    le_on s x (get_or (x ∷ xs) k d) (first_below s x xs up)
    (first_least x d xs k (tail_sorted s (x ∷ xs) up) (omega (arith, low)))

-- in order, by places
pub in_order : (d : ℤ) (xs : List ℤ) (i j : ℕ) → never_falls xs ≡ true → i ≤ j → j < length xs
    → int_le (get_or xs i d) (get_or xs j d) ≡ true
in_order d [] i j up le low = absurd (omega (arith, low))
in_order d (x ∷ xs) zero j up le low = first_least x d xs j up (omega (arith, low))
in_order d (x ∷ xs) (suc i) zero up le low = absurd (omega (arith, le))
in_order d (x ∷ xs) (suc i) (suc j) up le low =
    in_order d xs i j (tail_sorted x xs up) (omega (arith, le)) (omega (arith, low))

-- those below a number come first
pub lower_come_first : (c : ℤ) (xs : List ℤ) → never_falls xs ≡ true
    → IsPartitionedBy (λ v. int_lt v c) xs
lower_come_first c xs up i j d le low is =
    not_le _ c (false_le (get_or xs i d) (get_or xs j d) (in_order d xs i j up le low) is)
  where
    false_le : (v w : ℤ) → int_le v w ≡ true → int_lt w c ≡ true → int_le c v ≡ false
    false_le v w le lt = elim (cases_Bool (int_le c v)) [
      | inl is ↦ absurd (let e = le_on c v w is le in let f = lt_not w c lt in cc (sym e ∙ f))
      | inr isnt ↦ isnt
    ]

-- what passes a test from a place on and not before it is what stands from there on
pub filter_is_back : {X : Type 0} (p : X → Bool) (xs : List X) (i : ℕ) → i ≤ length xs
    → ((k : ℕ) (d : X) → k < i → p (get_or xs k d) ≡ false)
    → ((k : ℕ) (d : X) → i ≤ k → k < length xs → p (get_or xs k d) ≡ true)
    → filter p xs ≡ drop i xs
filter_is_back p [] zero short isnt is = refl
filter_is_back p [] (suc i) short isnt is = absurd (omega (arith, short))
filter_is_back p (x ∷ xs) zero short isnt is =
    ap (λ b. cond b (x ∷ filter p xs) (filter p xs)) (is 0 x (omega arith) (omega arith))
    ∙ ap (λ l. x ∷ l) (filter_is_back p xs zero (omega arith)
    (λ k d h. absurd (omega (arith, h)))
    (λ k d from below. is (suc k) d (omega arith) (omega (arith, below))))
filter_is_back p (x ∷ xs) (suc i) short isnt is =
    ap (λ b. cond b (x ∷ filter p xs) (filter p xs)) (isnt 0 x (omega arith))
    ∙ filter_is_back p xs i (omega (arith, short))
    (λ k d h. isnt (suc k) d (omega (arith, h)))
    (λ k d from below. is (suc k) d (omega (arith, from)) (omega (arith, below)))

-- ---- what is not below a number

kept_one : (c x : ℤ) (xs : List ℤ) → int_le c x ≡ true → not_below c (x ∷ xs) ≡ x ∷ not_below c xs
kept_one c x xs is = ap (λ b. cond b (x ∷ not_below c xs) (not_below c xs)) is

dropped_one : (c x : ℤ) (xs : List ℤ) → int_le c x ≡ false → not_below c (x ∷ xs) ≡ not_below c xs
dropped_one c x xs isnt = ap (λ b. cond b (x ∷ not_below c xs) (not_below c xs)) isnt

-- all, where none is below
pub all_kept : (c : ℤ) (xs : List ℤ) → never_falls (c ∷ xs) ≡ true → not_below c xs ≡ xs
all_kept c [] up = refl
all_kept c (x ∷ xs) up = kept_one c x xs (first_below c x xs up)
    ∙ ap (λ l. x ∷ l) (all_kept c xs (without_second c x xs up))

pub rest_sorted : (c : ℤ) (xs : List ℤ) → never_falls xs ≡ true → never_falls (not_below c xs) ≡ true
rest_sorted c [] up = refl
rest_sorted c (x ∷ xs) up = elim (cases_Bool (int_le c x)) [
  | inl is ↦ subst (λ l. never_falls l ≡ true)
      (sym (all_kept c (x ∷ xs) (lower_first c x xs is up))) up
  | inr isnt ↦ subst (λ l. never_falls l ≡ true) (sym (dropped_one c x xs isnt))
      (rest_sorted c xs (tail_sorted x xs up))
]

-- a list whose first number is c
pub record BeginsWith (c : ℤ) (xs : List ℤ) : Type 0 where
  pub others : List ℤ
  pub is : xs ≡ c ∷ others

-- it begins with the number, where that is there
pub rest_begins : (c : ℤ) (xs : List ℤ) (i : ℕ) → never_falls xs ≡ true → slice_get xs i ≡ Some c
    → BeginsWith c (not_below c xs)
rest_begins c [] i up is = absurd (cc)
rest_begins c (x ∷ xs) zero up is =
    let same : x ≡ c = cc in
    record {
      others = xs;
      is = all_kept c (x ∷ xs) (lower_first c x xs (subst (λ z. int_le c z ≡ true) (sym same) (le_same c)) up)
          ∙ ap (λ z. z ∷ xs) same;
    }
rest_begins c (x ∷ xs) (suc i) up is = elim (cases_Bool (int_le c x)) [
  | inl le ↦
      let same = le_both x c (above_first x xs i c up is) le in
      record {
        others = xs;
        is = all_kept c (x ∷ xs) (lower_first c x xs le up) ∙ ap (λ z. z ∷ xs) same;
      }
  | inr gt ↦
      let there = rest_begins c xs i (tail_sorted x xs up) is in
      record { others = there.others; is = dropped_one c x xs gt ∙ there.is }
]

-- ---- counts

none_below : (c : ℤ) (xs : List ℤ) → never_falls (c ∷ xs) ≡ true → count_by (λ v. int_lt v c) xs ≡ 0
none_below c [] up = refl
none_below c (x ∷ xs) up =
    count_no (λ v. int_lt v c) x xs (le_not_lt x c (first_below c x xs up))
    ∙ none_below c xs (without_second c x xs up)

-- before the place of a number there are at most so many lower ones
pub few_below : (c : ℤ) (xs : List ℤ) (i : ℕ) → never_falls xs ≡ true → slice_get xs i ≡ Some c
    → count_by (λ v. int_lt v c) xs ≤ i
few_below c [] i up is = absurd (cc)
few_below c (x ∷ xs) zero up is =
    let same : x ≡ c = cc in
    let e = none_below c (x ∷ xs) (lower_first c x xs (subst (λ z. int_le c z ≡ true) (sym same) (le_same c)) up) in
    omega (arith, e)
few_below c (x ∷ xs) (suc i) up is =
    omega (arith, count_more (λ v. int_lt v c) x xs, few_below c xs i (tail_sorted x xs up) is)

-- up to the place of a number there are so many that are not above it
pub many_between : (s c : ℤ) (xs : List ℤ) (i : ℕ) → never_falls (s ∷ xs) ≡ true
    → slice_get xs i ≡ Some c → i < between s c xs
many_between s c [] i up is = absurd (cc)
many_between s c (x ∷ xs) zero up is =
    let same : x ≡ c = cc in
    let low = subst (λ z. int_le x z ≡ true) same (le_same x) in
    let e = count_yes (λ v. int_le s v && int_le v c) x xs
    (and_from (int_le s x) (int_le x c) (first_below s x xs up) low) in
    omega (arith, e)
many_between s c (x ∷ xs) (suc i) up is =
    let low = above_first x xs i c (tail_sorted s (x ∷ xs) up) is in
    let e = count_yes (λ v. int_le s v && int_le v c) x xs
    (and_from (int_le s x) (int_le x c) (first_below s x xs up) low) in
    omega (arith, e, many_between s c xs i (without_second s x xs up) is)

-- between a number and itself there is that number
pub between_same : (s : ℤ) (xs : List ℤ) → between s s xs ≤ times s xs
between_same s xs = count_weaker _ _ xs (λ v h.
    let (above, below) = and_parts (int_le s v) (int_le v s) h in
    eq_holds v s (le_both v s below above))
