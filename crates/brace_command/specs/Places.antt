-- The line and the column of a place in a text.
use Rattle.std.specs.Prelude.{ℕ, ◌+◌, Bool, ◌==◌, not, List, length, take, filter, reverse}
use Rattle.std.specs.List.{take_while}

-- the byte is a line feed
abbrev pub is_feed : ℕ → Bool
is_feed b = b == 10

-- how many bytes stand behind the last line feed, or in all where there is none
abbrev pub since_feed : List ℕ → ℕ
since_feed text = length (take_while (λ b. not (is_feed b)) (reverse text))

-- lines are numbered from 1: one more behind each line feed
abbrev pub line_number : List ℕ → ℕ → ℕ
line_number src at_ = 1 + length (filter is_feed (take at_ src))

-- columns are numbered from 1: one more behind each byte of the line
abbrev pub column_number : List ℕ → ℕ → ℕ
column_number src at_ = 1 + since_feed (take at_ src)
