-- The pieces that a text is a row of: the bytes of each, and where it ends.
use Rattle.std.specs.Prelude.{ℕ, Bool, true, not, ◌&&◌, List, [], ◌∷◌, ◌++◌, is_some, ◌==◌, codes}
use Rattle.std.specs.List.{list_all}
use Rattle.brace_num.specs.Names.{is_digit, is_word_byte, begins, is_word}
use Rattle.brace_tok.specs.Bytes.{is_blank, are_digits, begins_fraction, has_close, begins_comment}
use Rattle.brace_tok.specs.Tables.{symbol}

-- a piece of a text
pub data Piece : Type 0 where
  blank : ℕ → Piece
  line_comment block_comment : List ℕ → Piece
  word whole : List ℕ → Piece
  fraction : List ℕ → List ℕ → Piece
  hash sign : List ℕ → Piece
  open_comment : List ℕ → Piece
  stray : ℕ → Piece

-- its bytes
abbrev pub bytes_of : Piece → List ℕ
bytes_of (blank b) = b ∷ []
bytes_of (line_comment body) = codes "//" ++ body
bytes_of (block_comment body) = codes "/*" ++ (body ++ codes "*/")
bytes_of (word letters) = letters
bytes_of (whole digits) = digits
bytes_of (fraction digits decimals) = digits ++ 46 ∷ decimals
bytes_of (hash letters) = 35 ∷ letters
bytes_of (sign marks) = marks
bytes_of (open_comment body) = codes "/*" ++ body
bytes_of (stray b) = b ∷ []

-- its parts are what its name says
abbrev pub is_formed : Piece → Bool
is_formed (blank b) = is_blank b
is_formed (line_comment body) = list_all (λ b. not (b == 10)) body
is_formed (block_comment body) = not (has_close (body ++ codes "*"))
is_formed (word letters) = is_word letters
is_formed (whole digits) = are_digits digits
is_formed (fraction digits decimals) = are_digits digits && are_digits decimals
is_formed (hash letters) = list_all is_word_byte letters
is_formed (sign marks) = is_some (symbol marks)
is_formed (open_comment body) = not (has_close body)
is_formed (stray b) =
    not (is_blank b) && not (is_word_byte b) && not (b == 35) && not (is_some (symbol (b ∷ [])))

-- nothing longer begins where it begins, when `after` follows it
abbrev pub ends_before : Piece → List ℕ → Bool
ends_before (blank b) after = true
ends_before (line_comment body) after = not (begins (λ b. not (b == 10)) after)
ends_before (block_comment body) after = true
ends_before (word letters) after = not (begins is_word_byte after)
ends_before (whole digits) after = not (begins is_digit after) && not (begins_fraction after)
ends_before (fraction digits decimals) after = not (begins is_digit after)
ends_before (hash letters) after = not (begins is_word_byte after)
ends_before (sign marks) after =
    not (begins (λ b. is_some (symbol (marks ++ b ∷ []))) after) &&
    not (begins_comment (marks ++ after))
ends_before (open_comment body) after = not (begins (λ b. true) after)
ends_before (stray b) after = not (begins (λ c. is_some (symbol (b ∷ c ∷ []))) after)
