-- The tokens of a text: the text is a row of blanks, comments and tokens, each the longest at its
-- place.
use Rattle.std.specs.Prelude.{◌≡◌, ℕ, ◌+◌, ◌<◌, ◌≤◌, Bool, true, false, ◌&&◌, List, [], ◌∷◌, ◌++◌, length, IsTrue}
use Rattle.brace_tok.specs.Pieces.{Piece, bytes_of, is_formed, ends_before}
use Rattle.brace_tok.specs.Roles.{Role, nothing, token, refused, role_at}
use Rattle.brace_tok.specs.declared.kinds.Token.{Token}
use Rattle.brace_tok.specs.declared.fault.TokFault.{TokFault}

-- the bytes of a row of pieces
abbrev pub text_of : List Piece → List ℕ
text_of [] = []
text_of (piece ∷ row) = bytes_of piece ++ text_of row

-- the role is no fault
abbrev pub is_sound : Role → Bool
is_sound nothing = true
is_sound (token k) = true
is_sound (refused f) = false

-- the piece is the longest at its place, where `after` follows it
abbrev pub is_longest : Piece → List ℕ → Bool
is_longest piece after = is_formed piece && ends_before piece after

-- each piece of the row is the longest at its place and no fault, where `after` follows the row
abbrev pub is_row : List Piece → List ℕ → Bool
is_row [] after = true
is_row (piece ∷ row) after =
    is_longest piece (text_of row ++ after) && is_sound (role_at 0 piece) && is_row row after

-- the token of a role, with its place
abbrev pub token_at : ℕ → ℕ → Role → List Token
token_at from_ to_ nothing = []
token_at from_ to_ (token k) = record { kind = k; from = from_; to = to_ } ∷ []
token_at from_ to_ (refused f) = []

-- the tokens of a row that begins at the place
abbrev pub tokens_from : ℕ → List Piece → List Token
tokens_from at_ [] = []
tokens_from at_ (piece ∷ row) =
    token_at at_ (at_ + length (bytes_of piece)) (role_at at_ piece) ++
    tokens_from (at_ + length (bytes_of piece)) row

-- the text is a row of pieces with these tokens
abbrev pub Spells : List ℕ → List Token → Type 0
Spells src toks =
    (row : List Piece) × (src ≡ text_of row) × IsTrue (is_row row []) × (toks ≡ tokens_from 0 row)

-- behind a row without a fault stands a piece that is this fault, so that it is the first of the
-- text
abbrev pub FirstFault : List ℕ → TokFault → Type 0
FirstFault src f =
    (row : List Piece) × (bad : Piece) × (after : List ℕ)
    × (src ≡ text_of row ++ (bytes_of bad ++ after))
    × IsTrue (is_row row (bytes_of bad ++ after)) × IsTrue (is_longest bad after)
    × (role_at (length (text_of row)) bad ≡ refused f)

-- the tokens stand one behind another from the first place on, and end at the second or before it
abbrev pub Rises : ℕ → ℕ → List Token → Type 0
Rises low high [] = low ≤ high
Rises low high (tok ∷ toks) = (low ≤ tok.from) × (tok.from < tok.to) × Rises tok.to high toks
