-- Counts of what passes a test, and tests of whole numbers.
use Rattle.std.proofs.Common.{◌≡◌, ◌∙◌, ℕ, suc, ◌+◌, ◌≤◌, ℤ, Bool, true, false, cond, ◌&&◌, List, [], ◌∷◌, refl, sym, ap, ap₂, arith, inl, inr, int_le}
use Rattle.std.specs.Prelude.{int_lt}
use Rattle.std.specs.List.{count_by, filter}
use Rattle.std.specs.Ordering.{int_eq}
use Rattle.std.proofs.lemmas.Bool.{cases_Bool}
use Rattle.std.proofs.lemmas.Bool.Decides.{Decides-int_eq}
use Rattle.std.proofs.lemmas.Int.{ints}
use Rattle.std.proofs.lemmas.List.Sums.{sum_by-cons, sum_by-le-sum_by}

-- ---- whole numbers

pub eq_told : (a b : ℤ) → int_eq a b ≡ true → a ≡ b
eq_told a b e = grind (arith, Decides-int_eq a b, e)

pub eq_holds : (a b : ℤ) → a ≡ b → int_eq a b ≡ true
eq_holds a b e = grind (arith, Decides-int_eq a b, e)

pub le_same : (a : ℤ) → int_le a a ≡ true
le_same a = grind (arith, ints)

pub le_on : (a b c : ℤ) → int_le a b ≡ true → int_le b c ≡ true → int_le a c ≡ true
le_on a b c h g = grind (arith, ints, h, g)

pub le_both : (a b : ℤ) → int_le a b ≡ true → int_le b a ≡ true → a ≡ b
le_both a b h g = grind (arith, ints, h, g)

pub lt_le : (a b : ℤ) → int_lt a b ≡ true → int_le a b ≡ true
lt_le a b h = grind (arith, ints, h)

pub lt_not : (a b : ℤ) → int_lt a b ≡ true → int_le b a ≡ false
lt_not a b h = grind (arith, ints, h)

pub not_le : (a b : ℤ) → int_le b a ≡ false → int_lt a b ≡ true
not_le a b h = grind (arith, ints, h)

pub not_lt : (a b : ℤ) → int_lt a b ≡ false → int_le b a ≡ true
not_lt a b h = grind (arith, ints, h)

pub le_not_lt : (a b : ℤ) → int_le b a ≡ true → int_lt a b ≡ false
le_not_lt a b h = grind (arith, ints, h)

pub lt_differ : (a b : ℤ) → int_le a b ≡ true → (a ≡ b → ⊥) → int_lt a b ≡ true
lt_differ a b h n = grind (arith, ints, h, n)

-- ---- counts

module _ {X : Type 0} where
  pub count_yes : (p : X → Bool) (x : X) (xs : List X) → p x ≡ true
      → count_by p (x ∷ xs) ≡ suc (count_by p xs)
  count_yes p x xs is = sum_by-cons (λ z. cond (p z) 1 0) x xs
      ∙ ap (λ b. cond b 1 0 + count_by p xs) is ∙ one_more (count_by p xs)
    where
      one_more : (n : ℕ) → 1 + n ≡ suc n
      one_more n = omega arith

  pub count_no : (p : X → Bool) (x : X) (xs : List X) → p x ≡ false
      → count_by p (x ∷ xs) ≡ count_by p xs
  count_no p x xs isnt = sum_by-cons (λ z. cond (p z) 1 0) x xs
      ∙ ap (λ b. cond b 1 0 + count_by p xs) isnt ∙ none_more (count_by p xs)
    where
      none_more : (n : ℕ) → 0 + n ≡ n
      none_more n = omega arith

  -- one item more adds one at most
  pub count_more : (p : X → Bool) (x : X) (xs : List X) → count_by p (x ∷ xs) ≤ suc (count_by p xs)
  count_more p x xs = elim (cases_Bool (p x)) [
    | inl is ↦ omega (arith, count_yes p x xs is)
    | inr isnt ↦ omega (arith, count_no p x xs isnt)
  ]

  -- as many pass a weaker test, or more
  pub count_weaker : (p q : X → Bool) (xs : List X) → ((x : X) → p x ≡ true → q x ≡ true)
      → count_by p xs ≤ count_by q xs
  count_weaker p q xs weaker = sum_by-le-sum_by (λ x. cond (p x) 1 0) (λ x. cond (q x) 1 0) xs
      (λ x. ones (p x) (q x) (weaker x))
    where
      ones : (a b : Bool) → (a ≡ true → b ≡ true) → cond a 1 0 ≤ cond b 1 0
      ones true true h = omega arith
      ones true false h = absurd (let e = h refl in cc)
      ones false true h = omega arith
      ones false false h = omega arith

  -- a test that keeps to those that a filter keeps
  pub count_filtered : (p t q : X → Bool) (xs : List X) → ((x : X) → p x ≡ (t x && q x))
      → count_by p xs ≡ count_by q (filter t xs)
  count_filtered p t q [] h = refl
  count_filtered p t q (x ∷ xs) h = by_test (t x) (q x) refl refl (count_filtered p t q xs h)
    where
      by_test : (a b : Bool) → t x ≡ a → q x ≡ b → count_by p xs ≡ count_by q (filter t xs)
          → count_by p (x ∷ xs) ≡ count_by q (cond a (x ∷ filter t xs) (filter t xs))
      by_test true true is has e = count_yes p x xs (h x ∙ ap₂ (λ u v. u && v) is has)
          ∙ ap suc e ∙ sym (count_yes q x (filter t xs) has)
      by_test true false is has e = count_no p x xs (h x ∙ ap₂ (λ u v. u && v) is has)
          ∙ e ∙ sym (count_no q x (filter t xs) has)
      by_test false b is has e = count_no p x xs (h x ∙ ap₂ (λ u v. u && v) is has) ∙ e

  -- no more pass of those that a filter keeps
  pub count_kept : (p t : X → Bool) (xs : List X) → count_by p (filter t xs) ≤ count_by p xs
  count_kept p t xs =
      let e = count_filtered (λ x. t x && p x) t p xs (λ x. refl) in
      let le = count_weaker (λ x. t x && p x) p xs (λ x. second (t x) (p x)) in
      omega (arith, e, le)
    where
      second : (a b : Bool) → (a && b) ≡ true → b ≡ true
      second true b h = h
      second false b h = absurd (cc)
