-- Kinds of bytes, and tests of a text by them.
use Rattle.std.specs.Prelude.{ℕ, Bool, false, ◌&&◌, ◌||◌, List, [], ◌∷◌, ◌==◌}
use Rattle.std.specs.List.{list_all}
use Rattle.brace_num.specs.Names.{is_digit, begins}

-- space, tab, carriage return or line feed
abbrev pub is_blank : ℕ → Bool
is_blank b = b == 32 || b == 9 || b == 13 || b == 10

-- one digit or more, and nothing else
abbrev pub are_digits : List ℕ → Bool
are_digits bytes = begins is_digit bytes && list_all is_digit bytes

-- the text begins with a point and a digit
abbrev pub begins_fraction : List ℕ → Bool
begins_fraction [] = false
begins_fraction (b ∷ bytes) = b == 46 && begins is_digit bytes

-- the text begins with the end of a block comment
abbrev pub begins_close : List ℕ → Bool
begins_close [] = false
begins_close (b ∷ bytes) = b == 42 && begins (λ c. c == 47) bytes

-- the end of a block comment stands somewhere in the text
abbrev pub has_close : List ℕ → Bool
has_close [] = false
has_close (b ∷ bytes) = begins_close (b ∷ bytes) || has_close bytes

-- a comment begins here
abbrev pub begins_comment : List ℕ → Bool
begins_comment [] = false
begins_comment (b ∷ bytes) = b == 47 && begins (λ c. c == 47 || c == 42) bytes
