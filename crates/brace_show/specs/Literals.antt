-- The canonical spellings of literals.
use Rattle.std.specs.Prelude.{ℕ, ◌/◌, ◌%◌, ◌==◌, if◌then◌else◌, List, [], ◌∷◌, ◌++◌, reverse, ℤ, unsigned_abs}
use Rattle.std.specs.Fmt.{decimal}
use Rattle.brace_num.specs.Spelling.{canonical_int, sign_of, six_digits}
use Rattle.brace_syntax.specs.declared.tree.Digits.{Digits}
use Rattle.brace_syntax.specs.declared.tree.Digits.TheVariants.{Int, Fixed}

-- without the zeros at the front
abbrev pub past_zeros : List ℕ → List ℕ
past_zeros [] = []
past_zeros (digit ∷ digits) = if digit == 48 then past_zeros digits else digit ∷ digits

-- without the zeros at the end
abbrev pub without_zeros : List ℕ → List ℕ
without_zeros digits = reverse (past_zeros (reverse digits))

-- the first digit, and the others without the zeros at the end
abbrev pub shortened : List ℕ → List ℕ
shortened [] = []
shortened (digit ∷ digits) = digit ∷ without_zeros digits

-- a number of millionths: its sign, the digits of its whole part, a point, and as few digits as say
-- it, but one
abbrev pub short_fixed : ℤ → List ℕ
short_fixed z =
    sign_of z ++ decimal (unsigned_abs z / 1000000) ++
    46 ∷ shortened (six_digits (unsigned_abs z % 1000000))

-- a whole number, or a fixed one
abbrev pub literal : Digits → List ℕ
literal (Int z) = canonical_int z
literal (Fixed z) = short_fixed z
