-- What the parts of a scan find at the head of a text.
use Rattle.std.specs.Prelude.{◌≡◌, ℕ, ◌+◌, ◌<◌, ◌≤◌, Bool, true, not, List, [], ◌∷◌, ◌++◌, length, take, drop, Option, Some, None, ◌==◌, IsTrue, IsFalse, codes, ⊤, ◌^◌}
use Rattle.std.specs.List.{list_all}
use Rattle.brace_num.specs.Names.{is_digit, is_word_byte, begins}
use Rattle.brace_tok.specs.Bytes.{begins_close, has_close, begins_fraction}
use Rattle.brace_tok.specs.Pieces.{Piece, bytes_of}
use Rattle.brace_tok.specs.Roles.{nothing, token, refused, role_at}
use Rattle.brace_tok.specs.Spells.{is_longest}
use Rattle.brace_tok.specs.Tables.{symbol}
use Rattle.brace_tok.specs.declared.kinds.TokKind.{TokKind}
use Rattle.brace_tok.specs.declared.kinds.Token.{Token as Tok}
use Rattle.brace_tok.specs.declared.runs.Run.{Run}
use Rattle.brace_tok.specs.declared.runs.Run.TheVariants.{Letters, Digits, Line}
use Rattle.brace_tok.specs.declared.step.Step.{Step}
use Rattle.brace_tok.specs.declared.step.Step.TheVariants.{Gap, Token, Fault}

-- the byte belongs to the run
abbrev pub is_of : Run → ℕ → Bool
is_of Letters b = is_word_byte b
is_of Digits b = is_digit b
is_of Line b = not (b == 10)

-- the text begins with n bytes of the kind, and no more
abbrev pub IsRun : (ℕ → Bool) → List ℕ → ℕ → Type 0
IsRun kind text n =
    (n ≤ length text) × IsTrue (list_all kind (take n text)) × IsFalse (begins kind (drop n text))

-- the first end of a block comment stands behind n bytes
abbrev pub IsClosed : List ℕ → Option ℕ → Type 0
IsClosed text None = IsFalse (has_close text)
IsClosed text (Some n) =
    (n + 2 ≤ length text) × IsFalse (has_close (take n text ++ codes "*"))
    × IsTrue (begins_close (drop n text))

-- the text begins with a point and n digits, or n is 0 and it does not begin with a point and a
-- digit
abbrev pub IsFraction : List ℕ → ℕ → Type 0
IsFraction text n =
    (n ≡ 0 → IsFalse (begins_fraction text))
    × (0 < n → IsTrue (begins_fraction text) × IsRun is_digit (drop 1 text) n)

-- the symbol of two bytes that the text begins with
abbrev pub pair_of : List ℕ → Option TokKind
pair_of [] = None
pair_of (a ∷ []) = None
pair_of (a ∷ b ∷ text) = symbol (a ∷ b ∷ [])

-- the first n bytes are the piece, and it is the longest there
pub record Stands (text : List ℕ) (piece : Piece) (n : ℕ) : Type 0 where
  pub within : n ≤ length text
  pub bytes : take n text ≡ bytes_of piece
  pub longest : is_longest piece (drop n text) ≡ true

-- what the piece at the head of the text says
abbrev pub StepIs : ℕ → List ℕ → Step → Type 0
StepIs at_ text (Gap n) = (piece : Piece) × Stands text piece n × (role_at at_ piece ≡ nothing)
StepIs at_ text (Token k n) = (piece : Piece) × Stands text piece n × (role_at at_ piece ≡ token k)
StepIs at_ text (Fault f) =
    (piece : Piece) × (n : ℕ) × Stands text piece n × (role_at at_ piece ≡ refused f)

-- the end of a token that begins at the place is a place too
abbrev pub HasEnd : ℕ → Step → Type 0
HasEnd at_ (Gap n) = ⊤
HasEnd at_ (Token k n) = at_ + n < 2 ^ 32
HasEnd at_ (Fault f) = ⊤

-- n bytes are passed, and the token that they are, if any, is put behind the others
abbrev pub Passes : ℕ → Step → List Tok → List Tok → ℕ → Type 0
Passes at_ (Gap m) old new n = (n ≡ m) × (new ≡ old)
Passes at_ (Token k m) old new n =
    (n ≡ m) × (new ≡ old ++ record { kind = k; from = at_; to = at_ + m } ∷ [])
Passes at_ (Fault f) old new n = ⊥
