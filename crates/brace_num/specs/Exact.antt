-- Exact arithmetic over whole numbers: what each operation gives at 64 signed bits, or why it gives
-- nothing. A fixed number is a whole number of millionths.
use Rattle.std.specs.Prelude.{ℕ, zero, suc, ◌+◌, ◌*◌, nat_le, ◌==◌, ℤ, pos, negsuc, ◌+ℤ◌, ◌-ℤ◌, ◌*ℤ◌, neg_ℤ, unsigned_abs, int_le, int_div, int_rem, Bool, ◌&&◌, if◌then◌else◌, Result, Ok, Err}
use Rattle.std.specs.Int.{int_max, int_min}
use Rattle.brace_num.specs.declared.kinds.Kind.{Kind}
use Rattle.brace_num.specs.declared.kinds.Kind.TheVariants.{Overflow, DivZero, NegRoot}

-- the number fits 64 signed bits
abbrev pub fits : ℤ → Bool
fits z = int_le (negsuc 9223372036854775807) z && int_le z (pos 9223372036854775807)

-- the number itself where it fits
abbrev pub fitting : ℤ → Result ℤ Kind
fitting z = if fits z then Ok z else Err Overflow

-- the number is 0
abbrev pub is_zero : ℤ → Bool
is_zero z = unsigned_abs z == 0

-- a + b, of two ints or two fixed numbers
abbrev pub exact_add : ℤ → ℤ → Result ℤ Kind
exact_add a b = fitting (a +ℤ b)

-- a - b
abbrev pub exact_sub : ℤ → ℤ → Result ℤ Kind
exact_sub a b = fitting (a -ℤ b)

-- -a
abbrev pub exact_neg : ℤ → Result ℤ Kind
exact_neg a = fitting (neg_ℤ a)

-- the magnitude of a
abbrev pub exact_abs : ℤ → Result ℤ Kind
exact_abs a = fitting (pos (unsigned_abs a))

-- a * b, of two ints
abbrev pub exact_int_mul : ℤ → ℤ → Result ℤ Kind
exact_int_mul a b = fitting (a *ℤ b)

-- a / b, of two ints, cut toward zero
abbrev pub exact_int_div : ℤ → ℤ → Result ℤ Kind
exact_int_div a b = if is_zero b then Err DivZero else fitting (int_div a b)

-- what is left of a by that division, with the sign of a
abbrev pub exact_int_rem : ℤ → ℤ → Result ℤ Kind
exact_int_rem a b = if is_zero b then Err DivZero else Ok (int_rem a b)

-- a * b, of two fixed numbers, cut toward zero
abbrev pub exact_fixed_mul : ℤ → ℤ → Result ℤ Kind
exact_fixed_mul a b = fitting (int_div (a *ℤ b) (pos 1000000))

-- a / b, of two fixed numbers, cut toward zero
abbrev pub exact_fixed_div : ℤ → ℤ → Result ℤ Kind
exact_fixed_div a b = if is_zero b then Err DivZero else fitting (int_div (a *ℤ pos 1000000) b)

-- the greatest r with r * r at most n: one more at each n that is the next square
unfoldable pub root : ℕ → ℕ
root zero = 0
root (suc n) = if nat_le ((root n + 1) * (root n + 1)) (suc n) then root n + 1 else root n

-- the square root of a fixed number, cut down
abbrev pub exact_sqrt : ℤ → Result ℤ Kind
exact_sqrt (pos a) = Ok (pos (root (a * 1000000)))
exact_sqrt (negsuc a) = Err NegRoot

-- an int as a fixed number
abbrev pub exact_to_fixed : ℤ → Result ℤ Kind
exact_to_fixed a = fitting (a *ℤ pos 1000000)

-- a fixed number as an int, cut toward zero
abbrev pub exact_trunc : ℤ → ℤ
exact_trunc a = int_div a (pos 1000000)

-- the new value, moved into reach of the old one; the bounds may lie past 64 bits
abbrev pub clamped : ℤ → ℤ → ℤ → ℤ
clamped old new reach = int_max (old -ℤ reach) (int_min new (old +ℤ reach))
