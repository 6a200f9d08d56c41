-- Strips filled from the left, and the one proof that goes with the least load.
use Rattle.std.specs.Prelude.{◌≡◌, ◌≢◌, ℕ, zero, suc, ◌-◌, ◌<◌, ◌≤◌, ℤ, int_le, ◌≤ℤ◌, List, [], ◌∷◌, slice_get, Option, Some, None}
use Rattle.std.specs.List.{filter}
use Rattle.brace_balance.specs.Loads.{times}
use Rattle.brace_balance.specs.declared.kinds.Proof.{Proof}
use Rattle.brace_balance.specs.declared.kinds.Proof.TheVariants.{Empty, Stack, Posts}

-- the numbers that are not below a cut
abbrev pub not_below : ℤ → List ℤ → List ℤ
not_below c xs = filter (λ v. int_le c v) xs

-- a cut where there is a number, with those that follow it
abbrev pub cut_at : Option ℤ → (ℤ → List ℤ) → List ℤ
cut_at None following = []
cut_at (Some c) following = c ∷ following c

-- the first k cuts, or fewer where the numbers run out, if each strip takes up to n of the numbers
-- that are left: a cut stands at the number behind n of them, and equal numbers stay together
abbrev pub filled : ℕ → ℕ → List ℤ → List ℤ
filled n zero xs = []
filled n (suc k) xs = cut_at (slice_get xs n) (λ c. filled n k (not_below c xs))

-- the first number, and the first ones of the next k strips that are filled with up to n
abbrev pub first_of_strips : ℕ → ℕ → List ℤ → List ℤ
first_of_strips n k [] = []
first_of_strips n k (x ∷ xs) = x ∷ filled n k (x ∷ xs)

-- p is the least number that is there n times or more
pub record IsLeastStack (xs : List ℤ) (n : ℕ) (p : ℤ) : Type 0 where
  pub stands : n ≤ times p xs
  pub least : (q : ℤ) → n ≤ times q xs → p ≤ℤ q

-- each number is there less than n times
abbrev pub HasNoStack : List ℤ → ℕ → Type 0
HasNoStack xs n = (q : ℤ) → times q xs < n

-- the proof that is given for a load n: the least stack where there is one, else posts where strips
-- begin that are filled with one less
abbrev pub IsProof : List ℤ → ℕ → ℕ → Proof → Type 0
IsProof xs strips n Empty = xs ≡ []
IsProof xs strips n (Stack p) = (xs ≢ []) × IsLeastStack xs n p
IsProof xs strips n (Posts posts) =
    (xs ≢ []) × HasNoStack xs n × (posts ≡ first_of_strips (n - 1) strips xs)
