-- Lists of which some elements are left out, and what stays true of them.
use Rattle.std.proofs.Common.{◌≡◌, sym, subst, ℕ, zero, suc, ◌+◌, ◌<◌, List, [], ◌∷◌, ◌++◌, Bool, true, false, arith}
use Rattle.std.specs.Prelude.{IsTrue, nat_eq, slice_index}
use Rattle.std.specs.List.{All, AllPairs, Contains, IsDistinct, list_all}
use Rattle.std.specs.List.Sorted.{IsStrictlyIncreasing}
use Rattle.std.proofs.lemmas.List.Sums.{AllPass-from_list_all, list_all-from_AllPass}
use Rattle.std.proofs.lemmas.List.Kept.{AllPairs-from_increasing}
use Rattle.std.proofs.lemmas.List.Elements.{All-nil, All-cons, All-head, All-tail, All-contains, All-contains_itself, All-from_recursion, recursion_from_All, Contains-append_right}
use Rattle.std.proofs.lemmas.Map.Keys.{IsDistinct-head, IsDistinct-tail, IsDistinct-cons}

-- the first list is the second with some elements left out
pub data Sub : List ℕ → List ℕ → Type 0 where
  none : Sub [] []
  skip : (y : ℕ) (xs ys : List ℕ) → Sub xs ys → Sub xs (y ∷ ys)
  keep : (x : ℕ) (xs ys : List ℕ) → Sub xs ys → Sub (x ∷ xs) (x ∷ ys)

pub sub-refl : (xs : List ℕ) → Sub xs xs
sub-refl [] = none
sub-refl (x ∷ xs) = keep x xs xs (sub-refl xs)

pub sub-append : (xs ys us vs : List ℕ) → Sub xs ys → Sub us vs → Sub (xs ++ us) (ys ++ vs)
sub-append _ _ us vs none h = h
sub-append _ _ us vs (skip y xs ys g) h = skip y (xs ++ us) (ys ++ vs) (sub-append xs ys us vs g h)
sub-append _ _ us vs (keep x xs ys g) h = keep x (xs ++ us) (ys ++ vs) (sub-append xs ys us vs g h)

-- elements before a list are left out
pub sub-right : (ys us vs : List ℕ) → Sub us vs → Sub us (ys ++ vs)
sub-right [] us vs h = h
sub-right (y ∷ ys) us vs h = skip y us (ys ++ vs) (sub-right ys us vs h)

-- the same of equal lists
pub sub-by : (xs us ys vs : List ℕ) → xs ≡ us → ys ≡ vs → Sub us vs → Sub xs ys
sub-by xs us ys vs e g h = subst (λ a. Sub a ys) (sym e) (subst (λ b. Sub us b) (sym g) h)

pub sub-All : (P : ℕ → Type 0) (xs ys : List ℕ) → Sub xs ys → All P ys → All P xs
sub-All P _ _ none all = all
sub-All P _ _ (skip y xs ys h) all = sub-All P xs ys h (All-tail P y ys all)
sub-All P _ _ (keep x xs ys h) all = All-cons P x xs (All-head P x ys all) (sub-All P xs ys h (All-tail P x ys all))

pub sub-Contains : (xs ys : List ℕ) (x : ℕ) → Sub xs ys → Contains xs x → Contains ys x
sub-Contains xs ys x h within = All-contains (Contains ys) xs x (sub-All (Contains ys) xs ys h (All-contains_itself ys)) within

pub sub-list_all : (p : ℕ → Bool) (xs ys : List ℕ) → Sub xs ys → IsTrue (list_all p ys) → IsTrue (list_all p xs)
sub-list_all p xs ys h all = list_all-from_AllPass p xs (sub-All (λ x. p x ≡ true) xs ys h (AllPass-from_list_all p ys all))

pub sub-IsDistinct : (xs ys : List ℕ) → Sub xs ys → IsDistinct nat_eq ys → IsDistinct nat_eq xs
sub-IsDistinct _ _ none all = all
sub-IsDistinct _ _ (skip y xs ys h) all = sub-IsDistinct xs ys h (IsDistinct-tail nat_eq y ys all)
sub-IsDistinct _ _ (keep x xs ys h) all =
    let P = λ (y : ℕ). nat_eq x y ≡ false in
    IsDistinct-cons nat_eq x xs (recursion_from_All P xs (sub-All P xs ys h (All-from_recursion P ys (IsDistinct-head nat_eq x ys all))))
    (sub-IsDistinct xs ys h (IsDistinct-tail nat_eq x ys all))

-- rising numbers, by recursion
abbrev pub Rising : List ℕ → Type 0
Rising [] = Unit {0}
Rising (x ∷ xs) = All (λ y. x < y) xs × Rising xs

rising_pairs : (xs : List ℕ) → AllPairs (λ x y. x < y) xs → Rising xs
rising_pairs [] h = tt
rising_pairs (x ∷ xs) h = (λ k d below. h 0 (suc k) d (omega arith) (omega (arith, below)), rising_pairs xs (λ i j d less below. h (suc i) (suc j) d (omega (arith, less)) (omega (arith, below))))

pub rising_from : (xs : List ℕ) → IsStrictlyIncreasing xs → Rising xs
rising_from xs h = rising_pairs xs (AllPairs-from_increasing xs h)

pub rising_to : (xs : List ℕ) → Rising xs → IsStrictlyIncreasing xs
rising_to [] h k below = absurd (omega (arith, below))
rising_to (x ∷ xs) h zero below = h.0 0 0 (omega (arith, below))
rising_to (x ∷ xs) h (suc k) below =
    let next : suc (k + 1) ≡ suc k + 1 = omega arith in
    subst (λ j. slice_index (x ∷ xs) (suc k) < slice_index (x ∷ xs) j) next (rising_to xs h.1 k (omega (arith, below)))

pub sub-Rising : (xs ys : List ℕ) → Sub xs ys → Rising ys → Rising xs
sub-Rising _ _ none h = h
sub-Rising _ _ (skip y xs ys g) h = sub-Rising xs ys g h.1
sub-Rising _ _ (keep x xs ys g) h = (sub-All (λ y. x < y) xs ys g h.0, sub-Rising xs ys g h.1)

pub sub-IsStrictlyIncreasing : (xs ys : List ℕ) → Sub xs ys → IsStrictlyIncreasing ys → IsStrictlyIncreasing xs
sub-IsStrictlyIncreasing xs ys g h = rising_to xs (sub-Rising xs ys g (rising_from ys h))

-- of rising numbers each of a front is below each behind it
pub rising-right : (xs ys : List ℕ) → Rising (xs ++ ys) → Rising ys
rising-right [] ys h = h
rising-right (x ∷ xs) ys h = rising-right xs ys h.1

all-left : (P : ℕ → Type 0) (xs ys : List ℕ) → All P (xs ++ ys) → All P xs
all-left P [] ys h = All-nil P
all-left P (x ∷ xs) ys h = All-cons P x xs (All-head P x (xs ++ ys) h) (all-left P xs ys (All-tail P x (xs ++ ys) h))

pub rising-left : (xs ys : List ℕ) → Rising (xs ++ ys) → Rising xs
rising-left [] ys h = tt
rising-left (x ∷ xs) ys h = (all-left (λ y. x < y) xs ys h.0, rising-left xs ys h.1)

pub rising-between : (xs ys : List ℕ) (x y : ℕ) → Rising (xs ++ ys) → Contains xs x → Contains ys y → x < y
rising-between [] ys x y h (k, below, is) there = absurd (omega (arith, below))
rising-between (w ∷ xs) ys x y h (zero, below, is) there =
    let less : w < y = All-contains (λ v. w < v) (xs ++ ys) y h.0 (Contains-append_right xs ys y there) in
    omega (arith, is, less)
rising-between (w ∷ xs) ys x y h (suc k, below, is) there = rising-between xs ys x y h.1 (k, omega (arith, below), is) there
