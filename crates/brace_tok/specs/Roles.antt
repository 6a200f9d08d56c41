-- The role of a piece: none, a token of a kind, or a fault.
use Rattle.std.specs.Prelude.{ℕ, ◌+◌, ◌-◌, ◌*◌, ◌^◌, ◌&&◌, List, length, Option, Some, None, pos, nat_le, if◌then◌else◌}
use Rattle.std.specs.Str.Parse.{digits_value}
use Rattle.brace_tok.specs.Tables.{reserved, directive, symbol}
use Rattle.brace_tok.specs.Pieces.{Piece, blank, line_comment, block_comment, word, whole, fraction, hash, sign, open_comment, stray}
use Rattle.brace_tok.specs.declared.kinds.TokKind.{TokKind}
use Rattle.brace_tok.specs.declared.kinds.TokKind.TheVariants as kind
use Rattle.brace_tok.specs.declared.fault.TokFault.{TokFault}
use Rattle.brace_tok.specs.declared.fault.TokFault.TheVariants as fault

-- what a piece is: no token, a token of a kind, or a fault
pub data Role : Type 0 where
  nothing : Role
  token : TokKind → Role
  refused : TokFault → Role

-- a token, or else the fault
abbrev pub token_or : TokFault → Option TokKind → Role
token_or f None = refused f
token_or f (Some k) = token k

-- a word that is not reserved is a name
abbrev pub name_or : Option TokKind → TokKind
name_or None = kind.Word
name_or (Some k) = k

-- the kind of a word, which has at most 64 bytes
abbrev pub word_kind : List ℕ → Option TokKind
word_kind letters = if nat_le (length letters) 64 then Some (name_or (reserved letters)) else None

-- the kind of a whole literal, which is at most 2^63-1
abbrev pub whole_kind : List ℕ → Option TokKind
whole_kind digits =
    if nat_le (digits_value 10 digits) 9223372036854775807
    then Some (kind.Int (pos (digits_value 10 digits))) else None

-- the millionths that digits with a point write
abbrev pub millionths : List ℕ → List ℕ → ℕ
millionths digits decimals =
    digits_value 10 digits * 1000000 + digits_value 10 decimals * 10 ^ (6 - length decimals)

-- the kind of a fixed literal, which has at most six digits behind the point and at most 2^63-1
-- millionths
abbrev pub fixed_kind : List ℕ → List ℕ → Option TokKind
fixed_kind digits decimals =
    if nat_le (length decimals) 6 && nat_le (millionths digits decimals) 9223372036854775807
    then Some (kind.Fixed (pos (millionths digits decimals))) else None

-- the role of the piece, where it begins at the place
abbrev pub role_at : ℕ → Piece → Role
role_at at_ (blank b) = nothing
role_at at_ (line_comment body) = nothing
role_at at_ (block_comment body) = nothing
role_at at_ (word letters) = token_or (fault.LongWord at_) (word_kind letters)
role_at at_ (whole digits) = token_or (fault.WideLiteral at_) (whole_kind digits)
role_at at_ (fraction digits decimals) =
    token_or (fault.WideLiteral at_) (fixed_kind digits decimals)
role_at at_ (hash letters) = token_or (fault.BadByte at_) (directive letters)
role_at at_ (sign marks) = token_or (fault.BadByte at_) (symbol marks)
role_at at_ (open_comment body) = refused (fault.OpenComment at_)
role_at at_ (stray b) = refused (fault.BadByte at_)
