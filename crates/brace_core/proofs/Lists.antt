-- Fronts of lists, and what a filter keeps of numbered items.
use Rattle.std.proofs.Common.{◌≡◌, ℕ, zero, suc, ◌+◌, ◌<◌, ◌≤◌, Bool, true, false, ◌-◌, cond, ◌==◌, ◌⊎◌, List, [], ◌∷◌, ◌++◌, map, length, take, drop, get_or, refl, sym, ap, ◌∙◌, subst, arith, inl, inr}
use Rattle.std.specs.List.{filter, range_with_len, All}
use Rattle.std.proofs.lemmas.Bool.{ne_eqb, eq-eqb, cases_eq, cases_Bool, cond-true, cond-false}
use Rattle.std.proofs.lemmas.List.{take-append-drop, take_at}
use Rattle.std.proofs.lemmas.List.Elements.{filter-append, filter_passes, All-filter}
use Rattle.std.proofs.lemmas.List.FromFn.{get_or-range_with_len, length-range_with_len}

-- ys begins with xs
abbrev pub IsFront : {A : Type 0} → List A → List A → Type 0
IsFront {A} xs ys = (rest : List A) × (ys ≡ xs ++ rest)

pub front_takes : {A : Type 0} (xs ys : List A) → IsFront xs ys → xs ≡ take (length xs) ys
front_takes xs ys (rest, e) = sym (ap (take (length xs)) e ∙ take_at xs rest (length xs) refl)

pub take_is_front : {A : Type 0} (a : ℕ) (xs : List A) → IsFront (take a xs) xs
take_is_front a xs = (drop a xs, sym (take-append-drop a xs))

pub filter_front : {A : Type 0} (t : A → Bool) (xs ys : List A) → IsFront xs ys → IsFront (filter t xs) (filter t ys)
filter_front t xs ys (rest, e) = (filter t rest, ap (filter t) e ∙ filter-append t xs rest)

-- two fronts that go on after the same items go on with the same item
pub same_next : {A : Type 0} (xs ys zs all : List A) (x y : A) → IsFront (xs ++ x ∷ ys) all → IsFront (xs ++ y ∷ zs) all → x ≡ y
same_next [] ys zs all x y (r, e) (s, f) = let both : (x ∷ ys) ++ r ≡ (y ∷ zs) ++ s = sym e ∙ f in cc
same_next (a ∷ xs) ys zs [] x y (r, e) (s, f) = let no : [] ≡ a ∷ ((xs ++ x ∷ ys) ++ r) = e in absurd cc
same_next (a ∷ xs) ys zs (b ∷ all) x y (r, e) (s, f) =
    let e' : b ∷ all ≡ a ∷ ((xs ++ x ∷ ys) ++ r) = e in
    let f' : b ∷ all ≡ a ∷ ((xs ++ y ∷ zs) ++ s) = f in
    same_next xs ys zs all x y (r, (cc)) (s, (cc))

-- of items made from some numbers in a row, a test that passes the number q keeps that one
module _ (f : ℕ → Bool) {A : Type 0} (h : ℕ → A) (t : A → Bool) (q : ℕ) (says : (b : ℕ) → t (h b) ≡ (b == q)) where
  pub none_below : (a n : ℕ) → q < a → filter t (map h (filter f (range_with_len a n))) ≡ []
  none_below a zero l = refl
  none_below a (suc n) l =
      let rest : List ℕ = filter f (range_with_len (a + 1) n) in
      elim (f a) as (λ v. filter t (map h (cond v (a ∷ rest) rest)) ≡ []) [
        | true ↦ cond-false (t (h a)) _ _ (says a ∙ ne_eqb a q (λ e. omega arith)) ∙ none_below (a + 1) n (omega arith)
        | false ↦ none_below (a + 1) n (omega arith)
      ]

  pub none_above : (a n : ℕ) → a + n ≤ q → filter t (map h (filter f (range_with_len a n))) ≡ []
  none_above a zero l = refl
  none_above a (suc n) l =
      let rest : List ℕ = filter f (range_with_len (a + 1) n) in
      elim (f a) as (λ v. filter t (map h (cond v (a ∷ rest) rest)) ≡ []) [
        | true ↦ cond-false (t (h a)) _ _ (says a ∙ ne_eqb a q (λ e. omega arith)) ∙ none_above (a + 1) n (omega arith)
        | false ↦ none_above (a + 1) n (omega arith)
      ]

  kept_first : (n : ℕ) → filter t (map h (filter f (range_with_len q (suc n)))) ≡ cond (f q) (h q ∷ []) []
  kept_first n =
      let rest : List ℕ = filter f (range_with_len (q + 1) n) in
      let none : filter t (map h rest) ≡ [] = none_below (q + 1) n (omega arith) in
      elim (f q) as (λ v. filter t (map h (cond v (q ∷ rest) rest)) ≡ cond v (h q ∷ []) []) [
        | true ↦ cond-true (t (h q)) _ _ (says q ∙ eq-eqb q q refl) ∙ ap (λ xs. h q ∷ xs) none
        | false ↦ none
      ]

  pub kept_one : (a n : ℕ) → a ≤ q → q < a + n → filter t (map h (filter f (range_with_len a n))) ≡ cond (f q) (h q ∷ []) []
  kept_one a zero l u = absurd (omega arith)
  kept_one a (suc n) l u =
      let rest : List ℕ = filter f (range_with_len (a + 1) n) in
      elim (cases_eq a q) [
        | inl e ↦ subst (λ b. filter t (map h (filter f (range_with_len b (suc n)))) ≡ cond (f q) (h q ∷ []) []) (sym e) (kept_first n)
        | inr other ↦ elim (f a) as (λ v. filter t (map h (cond v (a ∷ rest) rest)) ≡ cond (f q) (h q ∷ []) []) [
          | true ↦ cond-false (t (h a)) _ _ (says a ∙ ne_eqb a q other) ∙ kept_one (a + 1) n (omega arith) (omega arith)
          | false ↦ kept_one (a + 1) n (omega arith) (omega arith)
        ]
      ]

-- a number that a filter kept passes it and is one of those
pub kept_passes : (f : ℕ → Bool) (n i : ℕ) → i < length (filter f (range_with_len 0 n)) → f (get_or (filter f (range_with_len 0 n)) i 0) ≡ true
kept_passes f n i l = filter_passes f (range_with_len 0 n) i 0 l

pub kept_below : (f : ℕ → Bool) (n i : ℕ) → i < length (filter f (range_with_len 0 n)) → get_or (filter f (range_with_len 0 n)) i 0 < n
kept_below f n i l =
    let below : All (λ q. q < n) (range_with_len 0 n) = λ j d lt. let at : get_or (range_with_len 0 n) j d ≡ 0 + j = get_or-range_with_len 0 n j d (omega (arith, length-range_with_len 0 n)) in omega (arith, length-range_with_len 0 n) in
    All-filter f (λ q. q < n) (range_with_len 0 n) below i 0 l

pub at_map : {A : Type 0} (h : ℕ → A) (xs : List ℕ) (i : ℕ) (d : A) → i < length xs → get_or (map h xs) i d ≡ h (get_or xs i 0)
at_map h [] i d l = absurd (omega arith)
at_map h (x ∷ xs) zero d l = refl
at_map h (x ∷ xs) (suc i) d l = at_map h xs i d (omega arith)

pub take_past : {A : Type 0} (xs ys : List A) (i n : ℕ) → length xs ≡ n → n ≤ i → take i (xs ++ ys) ≡ xs ++ take (i - n) ys
take_past [] ys i n e l = let none : i - n ≡ i = omega arith in ap (λ j. take j ys) (sym none)
take_past (x ∷ xs) ys zero n e l = absurd (omega arith)
take_past (x ∷ xs) ys (suc i) n e l =
    let less : i - length xs ≡ suc i - n = omega arith in
    ap (λ zs. x ∷ zs) (take_past xs ys i (length xs) refl (omega arith) ∙ ap (λ j. xs ++ take j ys) less)

-- some number below n passes a test, or none does
pub search_below : (n : ℕ) (f : ℕ → Bool) → ((p : ℕ) × (p < n) × (f p ≡ true)) ⊎ ((p : ℕ) → p < n → f p ≡ false)
search_below zero f = inr (λ p l. absurd (omega arith))
search_below (suc n) f = elim (cases_Bool (f n)) [
  | inl here ↦ inl (n, omega arith, here)
  | inr not_here ↦ elim (search_below n f) [
    | inl (p, l, found) ↦ inl (p, omega arith, found)
    | inr none ↦ inr (λ p l. elim (cases_eq p n) [
      | inl same ↦ ap f same ∙ not_here
      | inr other ↦ none p (omega arith)
    ])
  ]
]
