-- The first of some faults, by pass and rank, in the order in which they are found.
use Rattle.std.proofs.Common.{◌≡◌, refl, sym, ap, subst, ◌∙◌, ℕ, nat_lt, Bool, true, false, List, [], ◌∷◌, ◌++◌, append_assoc, fold, Some, arith, tests, inl, inr}
use Rattle.std.specs.Prelude.{◌==◌, ◌&&◌, ◌||◌}
use Rattle.std.specs.List.{AllByRecursion}
use Rattle.std.proofs.lemmas.Bool.{cases_Bool}
use Rattle.std.proofs.lemmas.List.{append-nil}
use Rattle.brace_num.proofs.Lists.{each_weaker, each_append}
use Rattle.brace_names.specs.Answered.{is_before, earlier, first, IsFirst}

abbrev lex : ℕ → ℕ → ℕ → ℕ → Bool
lex a p b q = nat_lt a b || (a == b && nat_lt p q)

lex-transitive : (a p b q c r : ℕ) → lex a p b q ≡ true → lex b q c r ≡ true → lex a p c r ≡ true
lex-transitive a p b q c r ab bc = grind (arith, tests)

lex-past : (a p b q c r : ℕ) → lex a p b q ≡ true → lex c r b q ≡ false → lex a p c r ≡ true
lex-past a p b q c r ab cb = grind (arith, tests)

module _ {A : Type 0} (pass rank : A → ℕ) where
  -- a fault that is before the first one is before all
  before_all : (f x : A) (all : List A) → IsFirst pass rank f all → is_before pass rank x f ≡ true → AllByRecursion (λ g. is_before pass rank x g ≡ true) all
  before_all f x all best xf =
      subst (λ (l : List A). AllByRecursion (λ g. is_before pass rank x g ≡ true) l) (sym best.stands)
      (each_append (λ g. is_before pass rank x g ≡ true) best.earlier_ones (f ∷ best.later_ones)
      (each_weaker (λ g. is_before pass rank f g ≡ true) (λ g. is_before pass rank x g ≡ true)
      (λ g fg. lex-transitive (pass x) (rank x) (pass f) (rank f) (pass g) (rank g) xf fg) best.earlier_ones best.is_before_earlier_ones) (
        xf,
        each_weaker (λ g. is_before pass rank g f ≡ false) (λ g. is_before pass rank x g ≡ true)
            (λ g gf. lex-past (pass x) (rank x) (pass f) (rank f) (pass g) (rank g) xf gf) best.later_ones best.no_later_one_is_before,
      ))

  -- one fault more is found
  step : (f x : A) (all : List A) → IsFirst pass rank f all → IsFirst pass rank (earlier pass rank f x) (all ++ x ∷ [])
  step f x all best = elim (cases_Bool (is_before pass rank x f)) [
    | inl before ↦ rw before (record {
      earlier_ones = all;
      later_ones = [];
      stands = refl;
      is_before_earlier_ones = before_all f x all best before;
      no_later_one_is_before = tt;
    })
    | inr apart ↦ rw apart (record {
      earlier_ones = best.earlier_ones;
      later_ones = best.later_ones ++ x ∷ [];
      stands = ap (λ (l : List A). l ++ x ∷ []) best.stands ∙ append_assoc best.earlier_ones (f ∷ best.later_ones) (x ∷ []);
      is_before_earlier_ones = best.is_before_earlier_ones;
      no_later_one_is_before = each_append (λ g. is_before pass rank g f ≡ false) best.later_ones (x ∷ []) best.no_later_one_is_before (apart, tt);
    })
  ]

  steps : (f : A) (done xs : List A) → IsFirst pass rank f done → IsFirst pass rank (fold (earlier pass rank) f xs) (done ++ xs)
  steps f done [] best = subst (λ (l : List A). IsFirst pass rank f l) (sym (append-nil done)) best
  steps f done (x ∷ xs) best =
      subst (λ (l : List A). IsFirst pass rank (fold (earlier pass rank) (earlier pass rank f x) xs) l) (append_assoc done (x ∷ []) xs)
      (steps (earlier pass rank f x) (done ++ x ∷ []) xs (step f x done best))

  -- what is answered is the first of the faults
  pub first_is_first : (all : List A) (f : A) → first pass rank all ≡ Some f → IsFirst pass rank f all
  first_is_first [] f h = absurd (cc)
  first_is_first (x ∷ xs) f h =
      let e : fold (earlier pass rank) x xs ≡ f = cc in
      subst (λ (g : A). IsFirst pass rank g (x ∷ xs)) e
      (steps x (x ∷ []) xs (record { earlier_ones = []; later_ones = []; stands = refl; is_before_earlier_ones = tt; no_later_one_is_before = tt }))
