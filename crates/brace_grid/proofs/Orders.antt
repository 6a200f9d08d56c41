-- The order of cells: along x, and then along y.
use Rattle.std.proofs.Common.{◌≡◌, ℤ, pos, ◌+ℤ◌, Bool, true, false, ◌&&◌, arith}
use Rattle.std.specs.Prelude.{int_le}
use Rattle.std.specs.Ordering.{int_eq}
use Rattle.std.proofs.lemmas.Int.{ints}
use Rattle.brace_grid.specs.inner.Layout.{before}

pub and_true : (p q r : Bool) → p ≡ true → r ≡ q → r ≡ (p && q)
and_true true q r e h = h
and_true false q r e h = absurd (cc)

-- a cell that is not behind another is before all that the other is before
pub before_le : (a b c d column row : ℤ) → before c d a b ≡ false → before c d column row ≡ true → before a b column row ≡ true
before_le a b c d column row up h = grind (arith, ints, up, h)

-- a cell that is not before another is behind all that the other is behind
pub behind_le : (a b c d column row : ℤ) → before c d a b ≡ false → before a b column row ≡ false → before c d column row ≡ false
behind_le a b c d column row up h = grind (arith, ints, up, h)

pub before_trans : (a b c d column row : ℤ) → before a b c d ≡ true → before c d column row ≡ true → before a b column row ≡ true
before_trans a b c d column row up h = grind (arith, ints, up, h)

-- of two cells that are not in falling order and differ, the first is before the second
pub before_next : (a b c d : ℤ) → before c d a b ≡ false → (int_eq a c && int_eq b d) ≡ false → before a b c d ≡ true
before_next a b c d up other = grind (arith, ints, up, other)

-- a cell behind one that is not before another is not before it either
pub behind_trans : (a b c d column row : ℤ) → before a b c d ≡ true → before a b column row ≡ false → before c d column row ≡ false
behind_trans a b c d column row up h = grind (arith, ints, up, h)

-- a cell that is in a column and not behind a row of it is before the next row
pub up_to_before : (column north c r : ℤ) → (int_eq c column && int_le r north) ≡ true → before c r column (north +ℤ pos 1) ≡ true
up_to_before column north c r h = grind (arith, ints, h)

-- a cell that is not before a row of the column, and not up to another, is not before the next
pub past_behind : (column south north c r : ℤ) → before c r column south ≡ false → (int_eq c column && int_le r north) ≡ false → before c r column (north +ℤ pos 1) ≡ false
past_behind column south north c r from h = grind (arith, ints, from, h)
