-- Which of several faults is answered, by the pass of each and by what orders those of one pass.
use Rattle.std.specs.Prelude.{◌≡◌, ℕ, nat_lt, Bool, true, false, ◌==◌, ◌&&◌, ◌||◌, List, ◌∷◌, ◌++◌, Option, if◌then◌else◌}
use Rattle.std.specs.List.{AllByRecursion, reduce}

module _ {A : Type 0} (pass rank : A → ℕ) where
  -- an earlier pass decides, then the rank
  abbrev pub is_before : A → A → Bool
  is_before f g = nat_lt (pass f) (pass g) || (pass f == pass g && nat_lt (rank f) (rank g))

  -- the one of two faults that is answered, of which the first was found first
  abbrev pub earlier : A → A → A
  earlier f g = if is_before g f then g else f

  -- the one of these faults, in the order in which they are found, that is answered
  abbrev pub first : List A → Option A
  first = reduce earlier

-- the fault is the first of these: it is before each that was found before it, and none that was
-- found after it is before it
pub record IsFirst {A : Type 0} (pass rank : A → ℕ) (f : A) (all : List A) : Type 0 where
  pub earlier_ones : List A
  pub later_ones : List A
  pub stands : all ≡ earlier_ones ++ f ∷ later_ones
  pub is_before_earlier_ones : AllByRecursion (λ g. is_before pass rank f g ≡ true) earlier_ones
  pub no_later_one_is_before : AllByRecursion (λ g. is_before pass rank g f ≡ false) later_ones
