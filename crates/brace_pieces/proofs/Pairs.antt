-- Of all pairs of numbers below a bound those that a symmetric test passes are a lawful step.
use Rattle.std.proofs.Common.{◌≡◌, ◌∙◌, ◌++◌, refl, sym, ap, ℕ, zero, suc, ◌+◌, ◌<◌, ◌≤◌, List, [], ◌∷◌, map, filter, count_by, Bool, true, false, cond, ◌==◌, ◌&&◌, ◌||◌, arith, inl, inr}
use Rattle.std.specs.Prelude.{flat_map}
use Rattle.std.specs.List.{list_any, range_with_len}
use Rattle.std.proofs.lemmas.Bool.{eqb-true, ne_eqb, and_parts, and_left, and_right, cases_lt, cases_Bool, true≢false, cases_eq, cond-true, cond-false}
use Rattle.std.proofs.lemmas.List.Sums.{sum_by-cons, sum_by-append}
use Rattle.std.proofs.lemmas.List.Folds.{list_any-append, list_any_none}
use Rattle.std.proofs.lemmas.Map.Views.{any-filter_same}
use Rattle.brace_core.specs.Schedule.{Pair, IsLawfulStep, is_pair, meets}
use Rattle.brace_core.proofs.Lawful.{none_counted}
use Rattle.brace_pieces.specs.Steps.{pairs_below}
use Rattle.brace_num.proofs.Booleans.{and_swap}
use Rattle.brace_num.proofs.Lists.{All-from_contains}
use Rattle.brace_num.proofs.Rows.{in_row}

abbrev pub ordered : ℕ → ℕ → Pair
ordered p q = record { from = p; to = q }

-- the pairs from one number
abbrev pub row : ℕ → List ℕ → List Pair
row a bs = map (ordered a) bs

-- the pairs from some numbers
abbrev pub rows : List ℕ → List ℕ → List Pair
rows ns bs = flat_map (λ a. row a bs) ns

abbrev pub has : ℕ → List ℕ → Bool
has n ns = list_any (λ m. m == n) ns

and_or : (x b c : Bool) → ((x && b) || (x && c)) ≡ (x && (b || c))
and_or true b c = refl
and_or false b c = refl

or_and : (b c x : Bool) → ((b && x) || (c && x)) ≡ ((b || c) && x)
or_and true true true = refl
or_and true true false = refl
or_and true false true = refl
or_and true false false = refl
or_and false c x = refl

met_in_row : (a : ℕ) (bs : List ℕ) (p q : ℕ) → meets (row a bs) p q ≡ ((a == p) && has q bs)
met_in_row a [] p q = sym (and_right (a == p) false refl)
met_in_row a (b ∷ bs) p q = ap (λ v. ((a == p) && (b == q)) || v) (met_in_row a bs p q) ∙ and_or (a == p) (b == q) (has q bs)

pub met_in_rows : (ns bs : List ℕ) (p q : ℕ) → meets (rows ns bs) p q ≡ (has p ns && has q bs)
met_in_rows [] bs p q = refl
met_in_rows (a ∷ ns) bs p q =
    list_any-append (is_pair p q) (row a bs) (rows ns bs)
    ∙ ap (λ v. v || meets (rows ns bs) p q) (met_in_row a bs p q)
    ∙ ap (λ v. ((a == p) && has q bs) || v) (met_in_rows ns bs p q)
    ∙ or_and (a == p) (has p ns) (has q bs)

-- a number that is not in a row is not there
has_not : (n a q : ℕ) → (a ≤ q → q < a + n → ⊥) → has q (range_with_len a n) ≡ false
has_not n a q out = list_any_none (λ m. m == q) (range_with_len a n) (All-from_contains (λ m. (m == q) ≡ false) _ (λ m there.
    ne_eqb m q (λ e. let (low, high) = in_row a n m there in out (omega (arith, e, low)) (omega (arith, e, high)))))

-- a pair's numbers stand below the bound
below : (n p q : ℕ) → meets (pairs_below n) p q ≡ true → p < n
below n p q met = elim (cases_lt p n) [
  | inl low ↦ low
  | inr high ↦ absurd (true≢false (sym met ∙ met_in_rows (range_with_len 0 n) (range_with_len 0 n) p q ∙ and_left (has p (range_with_len 0 n)) (has q (range_with_len 0 n)) (has_not n 0 p (λ _ low. omega arith))))
]

-- what is counted of a first pair and the rest
counted : (p q : ℕ) (x : Pair) (xs : List Pair) → count_by (is_pair p q) (x ∷ xs) ≡ cond (is_pair p q x) 1 0 + count_by (is_pair p q) xs
counted p q x xs = sum_by-cons (λ (y : Pair). cond (is_pair p q y) 1 0) x xs

once_in_row : (a n k p q : ℕ) → count_by (is_pair p q) (row a (range_with_len k n)) ≤ 1
once_in_row a zero k p q = omega arith
once_in_row a (suc n) k p q =
    let rest : List Pair = row a (range_with_len (k + 1) n) in
    elim (cases_Bool (is_pair p q (ordered a k))) [
      | inl one ↦
          let (x, y) = and_parts (a == p) (k == q) one in
          let same : k ≡ q = eqb-true k q y in
          let none : count_by (is_pair p q) rest ≡ 0 = none_counted p q rest (met_in_row a (range_with_len (k + 1) n) p q ∙ and_right (a == p) (has q (range_with_len (k + 1) n)) (has_not n (k + 1) q (λ low _. omega arith))) in
          let here : cond {A = ℕ} (is_pair p q (ordered a k)) 1 0 ≡ 1 = cond-true (is_pair p q (ordered a k)) 1 0 one in
          omega (arith, counted p q (ordered a k) rest)
      | inr other ↦
          let here : cond {A = ℕ} (is_pair p q (ordered a k)) 1 0 ≡ 0 = cond-false (is_pair p q (ordered a k)) 1 0 other in
          omega (arith, counted p q (ordered a k) rest, once_in_row a n (k + 1) p q)
    ]

counted_behind : (p q : ℕ) (xs ys : List Pair) → count_by (is_pair p q) (xs ++ ys) ≡ count_by (is_pair p q) xs + count_by (is_pair p q) ys
counted_behind p q xs ys = sum_by-append (λ (y : Pair). cond (is_pair p q y) 1 0) xs ys

once_in_rows : (m n k p q : ℕ) → count_by (is_pair p q) (rows (range_with_len k n) (range_with_len 0 m)) ≤ 1
once_in_rows m zero k p q = omega arith
once_in_rows m (suc n) k p q =
    let bs : List ℕ = range_with_len 0 m in
    let first : List Pair = row k bs in
    let rest : List Pair = rows (range_with_len (k + 1) n) bs in
    elim (cases_eq k p) [
      | inl same ↦
          let none : count_by (is_pair p q) rest ≡ 0 = none_counted p q rest (met_in_rows (range_with_len (k + 1) n) bs p q ∙ and_left (has p (range_with_len (k + 1) n)) (has q bs) (has_not n (k + 1) p (λ low _. omega arith))) in
          omega (arith, counted_behind p q first rest, once_in_row k m 0 p q)
      | inr other ↦
          let none : count_by (is_pair p q) first ≡ 0 = none_counted p q first (met_in_row k bs p q ∙ and_left (k == p) (has q bs) (ne_eqb k p other)) in
          omega (arith, counted_behind p q first rest, once_in_rows m n (k + 1) p q)
    ]

filtered_counts_less : (t : Pair → Bool) (p q : ℕ) (xs : List Pair) → count_by (is_pair p q) (filter t xs) ≤ count_by (is_pair p q) xs
filtered_counts_less t p q [] = omega arith
filtered_counts_less t p q (x ∷ xs) = elim (t x) as (λ v. count_by (is_pair p q) (cond v (x ∷ filter t xs) (filter t xs)) ≤ count_by (is_pair p q) (x ∷ xs)) [
  | true ↦ omega (arith, counted p q x (filter t xs), counted p q x xs, filtered_counts_less t p q xs)
  | false ↦ omega (arith, counted p q x xs, filtered_counts_less t p q xs)
]

module _ (f : ℕ → ℕ → Bool) where
  abbrev pub passes : Pair → Bool
  passes m = f m.from m.to

  pub met_where : (ps : List Pair) (p q : ℕ) → meets (filter passes ps) p q ≡ (f p q && meets ps p q)
  met_where ps p q = any-filter_same (is_pair p q) passes (f p q) (λ m is.
      let (x, y) = and_parts (m.from == p) (m.to == q) is in
      ap (λ a. f a m.to) (eqb-true m.from p x) ∙ ap (f p) (eqb-true m.to q y)) ps

  pub lawful_where : (n : ℕ) → ((p : ℕ) → f p p ≡ false) → ((p q : ℕ) → f p q ≡ f q p) → IsLawfulStep n (filter passes (pairs_below n))
  lawful_where n never alike = record {
    below = λ p q met. below n p q (let (x, y) = and_parts (f p q) (meets (pairs_below n) p q) (sym (met_where (pairs_below n) p q) ∙ met) in y);
    different = λ p. met_where (pairs_below n) p p ∙ and_left (f p p) (meets (pairs_below n) p p) (never p);
    both_ways = λ p q. let ns : List ℕ = range_with_len 0 n in
        met_where (pairs_below n) p q
        ∙ ap (λ v. v && meets (pairs_below n) p q) (alike p q)
        ∙ ap (λ v. f q p && v) (met_in_rows ns ns p q ∙ and_swap (has p ns) (has q ns) ∙ sym (met_in_rows ns ns q p))
        ∙ sym (met_where (pairs_below n) q p);
    once = λ p q. omega (arith, filtered_counts_less passes p q (pairs_below n), once_in_rows n n 0 p q);
  }
