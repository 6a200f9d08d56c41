-- Where two texts differ: the number of the first line that is not the same in both.
use Rattle.std.specs.Prelude.{ℕ, ◌+◌, ◌==◌, List, [], ◌∷◌, Bool, true, false, Option, Some, None, if◌then◌else◌}
use Rattle.std.specs.Str.{bytes_eq}

-- a byte before some lines: a line feed is a line of its own there, another byte begins the first
abbrev pub with_byte : Bool → ℕ → List (List ℕ) → List (List ℕ)
with_byte true byte lines = (byte ∷ []) ∷ lines
with_byte false byte [] = (byte ∷ []) ∷ []
with_byte false byte (line ∷ lines) = (byte ∷ line) ∷ lines

-- a text cut into lines, each with its line feed; a rest with no line feed is a line
abbrev pub lines : List ℕ → List (List ℕ)
lines [] = []
lines (byte ∷ rest) = with_byte (byte == 10) byte (lines rest)

-- the number, counted from n, of the first line that differs or that one of both lacks
abbrev pub first_other : ℕ → List (List ℕ) → List (List ℕ) → Option ℕ
first_other n [] [] = None
first_other n [] (b ∷ bs) = Some n
first_other n (a ∷ more) [] = Some n
first_other n (a ∷ more) (b ∷ bs) = if bytes_eq a b then first_other (n + 1) more bs else Some n

-- the number, from 1, of the first line in which two texts differ or which one of them lacks; none
-- where they are equal
abbrev pub differs : List ℕ → List ℕ → Option ℕ
differs a b = first_other 1 (lines a) (lines b)
