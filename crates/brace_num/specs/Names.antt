-- The words of scripts, and which of them are names. Byte 95 is the underscore.
use Rattle.std.specs.Prelude.{ℕ, nat_le, ◌==◌, Bool, false, not, ◌&&◌, ◌||◌, List, [], ◌∷◌, length, codes}
use Rattle.std.specs.List.{list_all, list_any}
use Rattle.std.specs.Str.{bytes_eq}

-- 0 to 9
abbrev pub is_digit : ℕ → Bool
is_digit b = nat_le 48 b && nat_le b 57

-- a to z, A to Z or the underscore
abbrev pub is_letter : ℕ → Bool
is_letter b = (nat_le 97 b && nat_le b 122) || (nat_le 65 b && nat_le b 90) || b == 95

-- a byte that a word may hold
abbrev pub is_word_byte : ℕ → Bool
is_word_byte b = is_letter b || is_digit b

-- the text begins with a byte of the kind
abbrev pub begins : (ℕ → Bool) → List ℕ → Bool
begins kind [] = false
begins kind (b ∷ bytes) = kind b

-- a letter, then letters and digits
abbrev pub is_word : List ℕ → Bool
is_word bytes = begins is_letter bytes && list_all is_word_byte bytes

-- the words that are never names
abbrev pub reserved_words : List (List ℕ)
reserved_words =
    codes "class" ∷ codes "public" ∷ codes "private" ∷ codes "state" ∷ codes "effect" ∷
    codes "void" ∷ codes "run" ∷ codes "foreach" ∷ codes "Extent" ∷ codes "const" ∷ codes "if" ∷
    codes "else" ∷ codes "this" ∷ codes "true" ∷ codes "false" ∷ codes "int" ∷ codes "fixed" ∷
    codes "bool" ∷ codes "abs" ∷ codes "min" ∷ codes "max" ∷ codes "sqrt" ∷ codes "trunc" ∷
    codes "rand" ∷ codes "sum" ∷ codes "count" ∷ codes "or" ∷ codes "die" ∷ codes "spawn" ∷
    codes "when" ∷ []

-- the word is among these
abbrev pub is_among : List (List ℕ) → List ℕ → Bool
is_among words text = list_any (λ word. bytes_eq word text) words

-- a word of at most 64 bytes that is not reserved
abbrev pub is_name : List ℕ → Bool
is_name text = is_word text && nat_le (length text) 64 && not (is_among reserved_words text)
