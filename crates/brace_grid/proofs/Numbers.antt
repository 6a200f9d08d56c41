-- Coordinates and the numbers of their cells.
use Rattle.std.proofs.Common.{ℕ, ◌+◌, ◌*◌, ◌/◌, ◌<◌, ◌≤◌, ℤ, pos, negsuc, ◌+ℤ◌, ◌-ℤ◌, ◌*ℤ◌, ◌≤ℤ◌, ◌<ℤ◌, FitsSigned, w64, arith, ⊎_elim}
use Rattle.std.proofs.lemmas.Int.{ints}
use Rattle.std.proofs.lemmas.Bool.{cases_lt}
use Rattle.std.proofs.lemmas.Nat.{div_below, le-div}
use Rattle.std.proofs.Math.Nat.{div-mul-le_self, mul-le-mul_right, add-mul}
use Rattle.brace_grid.specs.Grids.{cell_number}

div_mono : (a b n : ℕ) → 0 < n → a ≤ b → a / n ≤ b / n
div_mono a b n some h = le-div (a / n) b n some (omega (arith, div-mul-le_self a n, h))

div_far : (a b n : ℕ) → 0 < n → b ≤ a + 2 * n → b / n ≤ a / n + 2
div_far a b n some h =
    ⊎_elim
    (λ (less : b / n < a / n + 3). omega (arith, less))
    (λ (more : a / n + 3 ≤ b / n). absurd (omega (arith, some, h, le-div (a / n + 1) a n some (over a b n h (a / n) (b / n) more (div-mul-le_self b n)))))
    (cases_lt (b / n) (a / n + 3))
  where
    over : (a b n : ℕ) → b ≤ a + 2 * n → (p q : ℕ) → p + 3 ≤ q → q * n ≤ b → (p + 1) * n ≤ a
    over a b n h p q more low = omega (arith, h, low, mul-le-mul_right {m = p + 3} {n = q} n more, add-mul (p + 1) 2 n)

div_meet : (a b n : ℕ) → 0 < n → a + b + 1 ≤ 2 * n → a / n + b / n ≤ 1
div_meet a b n some h =
    ⊎_elim
    (λ (less : b < n). omega (arith, div_below b n 1 some (omega (arith, less)), div_below a n 2 some (omega (arith, h))))
    (λ (more : n ≤ b). omega (arith, div_below a n 1 some (omega (arith, more, h)), div_below b n 2 some (omega (arith, h))))
    (cases_lt b n)

-- the sides of cells are positive numbers
pos_side : (P : ℤ → Type 0) → ((n : ℕ) → 0 < n → P (pos n)) → (side : ℤ) → pos 1 ≤ℤ side → P side
pos_side P f (pos n) h = f n (omega (arith, ints, h))
pos_side P f (negsuc n) h = absurd (omega (arith, ints, h))

-- numbers of cells rise with coordinates
pub number_rises : (side : ℤ) → pos 1 ≤ℤ side → (v w : ℤ) → v ≤ℤ w → cell_number side v ≤ℤ cell_number side w
number_rises = pos_side (λ side. (v w : ℤ) → v ≤ℤ w → cell_number side v ≤ℤ cell_number side w) rises
  where
    rises : (n : ℕ) → 0 < n → (v w : ℤ) → v ≤ℤ w → cell_number (pos n) v ≤ℤ cell_number (pos n) w
    rises n some (pos a) (pos b) h = omega (arith, ints, div_mono a b n some (omega (arith, ints, h)))
    rises n some (negsuc a) (pos b) h = omega (arith, ints)
    rises n some (negsuc a) (negsuc b) h = omega (arith, ints, div_mono b a n some (omega (arith, ints, h)))
    rises n some (pos a) (negsuc b) h = absurd (omega (arith, ints, h))

-- coordinates at most two sides apart are at most two cells apart
pub number_near : (side : ℤ) → pos 1 ≤ℤ side → (v w : ℤ) → (w -ℤ v) ≤ℤ (pos 2 *ℤ side) → cell_number side w ≤ℤ (cell_number side v +ℤ pos 2)
number_near = pos_side (λ side. (v w : ℤ) → (w -ℤ v) ≤ℤ (pos 2 *ℤ side) → cell_number side w ≤ℤ (cell_number side v +ℤ pos 2)) near
  where
    near : (n : ℕ) → 0 < n → (v w : ℤ) → (w -ℤ v) ≤ℤ (pos 2 *ℤ pos n) → cell_number (pos n) w ≤ℤ (cell_number (pos n) v +ℤ pos 2)
    near n some (pos a) (pos b) h = omega (arith, ints, div_far a b n some (omega (arith, ints, h)))
    near n some (negsuc a) (pos b) h = omega (arith, ints, div_meet a b n some (omega (arith, ints, h)))
    near n some (negsuc a) (negsuc b) h = omega (arith, ints, div_far b a n some (omega (arith, ints, h)))
    near n some (pos a) (negsuc b) h = omega (arith, ints)

-- cells of a unit or more have small numbers
pub number_small : (side : ℤ) → pos 1000000 ≤ℤ side → (v : ℤ) → v ≤ℤ pos 9223372036854775807 → cell_number side v ≤ℤ pos 9223372036854
number_small (pos n) big (pos a) h = omega (arith, ints, div_below a n 9223372036855 (omega (arith, ints, big)) (omega (arith, ints, big, h)))
number_small (pos n) big (negsuc a) h = omega (arith, ints)
number_small (negsuc n) big v h = absurd (omega (arith, ints, big))

-- the number of a cell of a unit or more is not the last that 64 bits can hold
pub number_low : (side v : ℤ) → pos 1000000 ≤ℤ side → FitsSigned w64 v → cell_number side v <ℤ pos 9223372036854775807
number_low side v big fits = omega (arith, ints, number_small side big v (top v fits))
  where
    top : (v : ℤ) → FitsSigned w64 v → v ≤ℤ pos 9223372036854775807
    top v fits = omega (arith, ints, fits)
