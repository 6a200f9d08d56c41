-- Sums over lists, what lists have in common, and fronts of rows.
use Rattle.std.proofs.Common.{◌≡◌, ◌∙◌, refl, sym, ap, ap₂, append-nil, ℕ, zero, suc, ◌+◌, ◌<◌, ◌≤◌, List, [], ◌∷◌, ◌++◌, filter, flat_map, length, Bool, true, false, cond, ◌==◌, ◌&&◌, ◌||◌, AllPairs, arith, ⊎_elim}
use Rattle.std.specs.Prelude.{sum_by, count_by}
use Rattle.std.specs.List.{Contains, list_any, range_with_len}
use Rattle.std.specs.List.Sorted.{IsPermutation}
use Rattle.std.proofs.lemmas.Bool.{eqb-true, ne_eqb}
use Rattle.std.proofs.lemmas.List.Elements.{Contains-append_right, Contains-append_cases, filter-append}
use Rattle.std.proofs.lemmas.List.Sorted.{IsPermutation-sym, Contains-permutation}
use Rattle.std.proofs.lemmas.List.Sums.{sum_by-cons, sum_by-append, length-filter}
use Rattle.brace_num.proofs.Booleans.{and_swap}
use Rattle.brace_num.proofs.Lists.{sum_none, sum_alike, filter_all, filter_alike, filter_none, filter_twice, none_in}
use Rattle.brace_num.proofs.Rows.{row_joined, row_alike}

sum_both : {A : Type 0} (f g : A → ℕ) (xs : List A) → sum_by (λ x. f x + g x) xs ≡ sum_by f xs + sum_by g xs
sum_both f g [] = refl
sum_both f g (x ∷ xs) =
    let rest = sum_both f g xs in
    omega (arith, rest, sum_by-cons (λ y. f y + g y) x xs, sum_by-cons f x xs, sum_by-cons g x xs)

-- over rows, or over columns
pub sum_swap : {A B : Type 0} (f : A → B → ℕ) (xs : List A) (ys : List B) → sum_by (λ x. sum_by (f x) ys) xs ≡ sum_by (λ y. sum_by (λ x. f x y) xs) ys
sum_swap f [] ys = sym (sum_none ys)
sum_swap f (x ∷ xs) ys =
    sum_by-cons (λ x. sum_by (f x) ys) x xs
    ∙ ap (λ n. sum_by (f x) ys + n) (sum_swap f xs ys)
    ∙ sym (sum_both (f x) (λ y. sum_by (λ x. f x y) xs) ys)
    ∙ sum_alike (λ y. f x y + sum_by (λ x. f x y) xs) (λ y. sum_by (λ x. f x y) (x ∷ xs)) ys (λ y has. sym (sum_by-cons (λ x. f x y) x xs))

pub sum_flat : {A B : Type 0} (f : B → ℕ) (g : A → List B) (xs : List A) → sum_by f (flat_map g xs) ≡ sum_by (λ x. sum_by f (g x)) xs
sum_flat f g [] = refl
sum_flat f g (x ∷ xs) =
    sum_by-append f (g x) (flat_map g xs)
    ∙ ap (λ n. sum_by f (g x) + n) (sum_flat f g xs)
    ∙ sym (sum_by-cons (λ x. sum_by f (g x)) x xs)

-- of those that pass a test
sum_where : {A : Type 0} (f : A → ℕ) (t : A → Bool) (xs : List A) → sum_by f (filter t xs) ≡ sum_by (λ x. cond (t x) (f x) 0) xs
sum_where f t [] = refl
sum_where f t (x ∷ xs) =
    (elim (t x) as (λ v. sum_by f (cond v (x ∷ filter t xs) (filter t xs)) ≡ cond v (f x) 0 + sum_by (λ x. cond (t x) (f x) 0) xs) [
      | true ↦ sum_by-cons f x (filter t xs) ∙ ap (λ n. f x + n) (sum_where f t xs)
      | false ↦ let rest = sum_where f t xs in omega (arith, rest)
    ])
    ∙ sym (sum_by-cons (λ x. cond (t x) (f x) 0) x xs)

pub sum_kept : {A : Type 0} (f : A → ℕ) (t u : A → Bool) (xs : List A) → ((x : A) → Contains xs x → cond (t x) (f x) 0 ≡ cond (u x) (f x) 0) → sum_by f (filter t xs) ≡ sum_by f (filter u xs)
sum_kept f t u xs same =
    sum_where f t xs ∙ sum_alike (λ x. cond (t x) (f x) 0) (λ x. cond (u x) (f x) 0) xs same ∙ sym (sum_where f u xs)

-- ---- items that two lists have in common

turned : (m n : ℕ) → (m == n) ≡ (n == m)
turned m n = grind (arith)

module _ {A : Type 0} (key : A → ℕ) where
  -- keys rise along a list
  abbrev pub Risen : List A → Type 0
  Risen xs = AllPairs (λ (a b : A). key a < key b) xs

  abbrev has_key : ℕ → A → Bool
  has_key n a = key a == n

  rest_risen : (x : A) (xs : List A) → Risen (x ∷ xs) → Risen xs
  rest_risen x xs up i j d less within = up (suc i) (suc j) d (omega (arith, less)) (omega (arith, within))

  above_first : (x : A) (xs : List A) → Risen (x ∷ xs) → (y : A) → Contains xs y → key x < key y
  above_first x xs up y (k, low, is) =
      let less = up zero (suc k) y (omega arith) (omega (arith, low)) in
      let there = ap key is in
      omega (arith, less, there)

  -- at most one has a key
  counted_once : (n : ℕ) (xs : List A) → Risen xs → cond (list_any (has_key n) xs) 1 0 ≡ count_by (has_key n) xs
  counted_once n [] up = refl
  counted_once n (x ∷ xs) up = by_key (key x == n) refl (counted_once n xs (rest_risen x xs up)) ∙ sym (sum_by-cons (λ y. cond (has_key n y) 1 0) x xs)
    where
      no_other : (key x == n) ≡ true → count_by (has_key n) xs ≡ 0
      no_other is =
          sum_alike (λ y. cond (has_key n y) 1 0) (λ y. 0) xs (λ y has.
          let less = above_first x xs up y has in
          let same = eqb-true (key x) n is in
          ap (λ v. cond v 1 0) (ne_eqb (key y) n (λ e. omega (arith, less, same, e))))
          ∙ sum_none xs

      by_key : (v : Bool) → (key x == n) ≡ v → cond (list_any (has_key n) xs) 1 0 ≡ count_by (has_key n) xs
          → cond (v || list_any (has_key n) xs) 1 0 ≡ cond v 1 0 + count_by (has_key n) xs
      by_key true is rest = let none = no_other is in omega (arith, none)
      by_key false is rest = omega (arith, rest)

  -- as many items of one list have the key of one of another as the other way round
  pub common : (xs ys : List A) → Risen xs → Risen ys → length (filter (λ x. list_any (λ y. key y == key x) ys) xs) ≡ length (filter (λ y. list_any (λ x. key x == key y) xs) ys)
  common xs ys up down =
      length-filter (λ x. list_any (λ y. key y == key x) ys) xs
      ∙ sum_alike (λ x. cond (list_any (λ y. key y == key x) ys) 1 0) (λ x. count_by (has_key (key x)) ys) xs (λ x has. counted_once (key x) ys down)
      ∙ sum_swap (λ x y. cond (key y == key x) 1 0) xs ys
      ∙ sum_alike (λ y. sum_by (λ x. cond (key y == key x) 1 0) xs) (λ y. cond (list_any (λ x. key x == key y) xs) 1 0) ys (λ y has.
      sum_alike (λ x. cond (key y == key x) 1 0) (λ x. cond (key x == key y) 1 0) xs (λ x there. ap (λ v. cond v 1 0) (turned (key y) (key x)))
      ∙ sym (counted_once (key y) xs up))
      ∙ sym (length-filter (λ y. list_any (λ x. key x == key y) xs) ys)

-- ---- who gives nothing

-- which of two tests comes first does not matter
pub either_first : {A : Type 0} (t u : A → Bool) (xs : List A) → filter t (filter u xs) ≡ filter u (filter t xs)
either_first t u xs =
    filter_twice t u xs
    ∙ filter_alike (λ a. u a && t a) (λ a. t a && u a) xs (λ x has. and_swap (u x) (t x))
    ∙ sym (filter_twice u t xs)

given_by : {A : Type 0} (give : ℕ → List A) (ms : List ℕ) (x : A) → Contains (flat_map give ms) x → (r : ℕ) × (Contains ms r × Contains (give r) x)
given_by give [] x (k, low, is) = absurd (omega (arith, low))
given_by give (m ∷ ms) x has = ⊎_elim
    (λ (here : Contains (give m) x). (m, ((0, omega arith, refl), here)))
    (λ (later : Contains (flat_map give ms) x). let (r, (there, given)) = given_by give ms x later in (r, (Contains-append_right (m ∷ []) ms r there, given)))
    (Contains-append_cases (give m) (flat_map give ms) x has)

-- where all comes from some givers, one that gives what none of them gives gives nothing
pub nothing_left : {A : Type 0} (give : ℕ → List A) (own all : List A) (ms : List ℕ) (p : ℕ) → IsPermutation (own ++ flat_map give ms) all
    → ((x : A) → Contains (give p) x → Contains all x) → ((x : A) → Contains (give p) x → Contains own x → ⊥)
    → ((r : ℕ) (x : A) → Contains ms r → Contains (give p) x → Contains (give r) x → ⊥) → give p ≡ []
nothing_left give own all ms p same within apart others = none_in (give p) (λ x has. ⊎_elim
    (λ (mine : Contains own x). apart x has mine)
    (λ (given : Contains (flat_map give ms) x). let (r, (there, too)) = given_by give ms x given in others r x there has too)
    (Contains-append_cases own (flat_map give ms) x (Contains-permutation all (own ++ flat_map give ms) x (IsPermutation-sym (own ++ flat_map give ms) all same) (within x has))))

-- ---- rows of numbers

-- of those that pass a test which the first ones pass
pub row_front : (f : ℕ → Bool) (a n m : ℕ) → ((r : ℕ) → a ≤ r → r < a + n → f r ≡ true)
    → ((r : ℕ) → a + n ≤ r → r < a + n + m → f r ≡ false)
    → filter f (range_with_len a (n + m)) ≡ range_with_len a n
row_front f a n m kept gone =
    ap (filter f) (sym (row_joined a n m))
    ∙ filter-append f (range_with_len a n) (range_with_len (a + n) m)
    ∙ ap₂ (λ xs ys. xs ++ ys)
    (row_alike f (λ r. true) a n kept ∙ filter_all (range_with_len a n))
    (row_alike f (λ r. false) (a + n) m gone ∙ filter_none (range_with_len (a + n) m))
    ∙ append-nil (range_with_len a n)
