-- What std's lemmas on the order of numbers leave out.
use Rattle.std.proofs.Common.{◌≡◌, ℕ, ℤ, true, max, pos, ◌≤ℤ◌, int_le, nat_eq, arith}
use Rattle.std.specs.Int.{int_max}
use Rattle.std.proofs.lemmas.Bool.Decides.{nat_tests}
use Rattle.std.proofs.lemmas.Int.{ints}

-- either side first
pub eq_swap : (m n : ℕ) → nat_eq m n ≡ nat_eq n m
eq_swap m n = grind (arith, nat_tests)

-- the test of the order of whole numbers
pub le_holds : (a b : ℤ) → a ≤ℤ b → int_le a b ≡ true
le_holds a b h = grind (arith, ints, h)

pub le_told : (a b : ℤ) → int_le a b ≡ true → a ≤ℤ b
le_told a b e = grind (arith, ints, e)

pub le_through : (a b c : ℤ) → a ≤ℤ b → b ≤ℤ c → a ≤ℤ c
le_through a b c h g = grind (arith, ints, h, g)

-- the greater of two is at most what both are at most
pub max_within : (a b c : ℤ) → a ≤ℤ c → b ≤ℤ c → int_max a b ≤ℤ c
max_within a b c h g = grind (arith, h, g)

pub within_max : (a b c : ℤ) → int_max a b ≤ℤ c → (a ≤ℤ c) × (b ≤ℤ c)
within_max a b c h = (grind (arith, h), grind (arith, h))

-- what is at most the first of two is at most the greater
pub below_max : (c a b : ℤ) → c ≤ℤ a → c ≤ℤ int_max a b
below_max c a b h = grind (arith, h)

-- the greater of two that are not negative
pub max_pos : (m n : ℕ) (a b : ℤ) → pos m ≡ a → pos n ≡ b → pos (max m n) ≡ int_max a b
max_pos m n a b e f = grind (arith, e, f)
