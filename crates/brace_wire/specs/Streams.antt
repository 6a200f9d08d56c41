-- Frames one behind another, as they come over a stream in pieces.
use Rattle.std.specs.Prelude.{◌≡◌, ℕ, ◌+◌, nat_le, ◌&&◌, Bool, false, IsTrue, List, [], ◌∷◌, ◌++◌, length, take, flat_map}
use Rattle.std.specs.Int.{w32, from_be_bytes}
use Rattle.std.specs.List.{AllByRecursion}
use Rattle.brace_model.specs.declared.program.Ty.{Ty}
use Rattle.brace_wire.specs.declared.frame.Frame.{Frame}
use Rattle.brace_wire.specs.Frames.{frame}
use Rattle.brace_wire.specs.Fitting.{IsFrame}

-- how many bytes follow the length of the frame in front, by its length
abbrev pub length_in_front : List ℕ → ℕ
length_in_front bytes = from_be_bytes w32 (take 4 bytes)

-- a whole frame stands in front, by its length
unfoldable pub is_whole : List ℕ → Bool
is_whole bytes = nat_le 4 (length bytes) && nat_le (4 + length_in_front bytes) (length bytes)

-- less than a whole frame
abbrev pub IsPartial : List ℕ → Type 0
IsPartial bytes = is_whole bytes ≡ false

-- the bytes in front are those of no frame
abbrev pub BeginsNoFrame : List (List Ty) → List ℕ → Type 0
BeginsNoFrame types bytes =
    (f : Frame) (more : List ℕ) → IsFrame types f → bytes ≡ frame f ++ more → ⊥

-- by its length a whole frame stands in front, and it is none
pub record IsBroken (types : List (List Ty)) (bytes : List ℕ) : Type 0 where
  pub whole : IsTrue (is_whole bytes)
  pub none : BeginsNoFrame types bytes

-- bytes are frames, and then a rest
pub record Reads (types : List (List Ty)) (bytes : List ℕ) (frames : List Frame) (rest : List ℕ)
    : Type 0 where
  pub same : bytes ≡ flat_map frame frames ++ rest
  pub each : AllByRecursion (IsFrame types) frames

-- what a decoder waits with: the types of states, how many bytes of the stream are read, and the
-- bytes behind these
pub record Waiting : Type 0 where
  pub types : List (List Ty)
  pub place : ℕ
  pub rest : List ℕ

abbrev pub waits : List (List Ty) → ℕ → List ℕ → Waiting
waits types place rest = record { types = types; place = place; rest = rest }

-- with one more piece of the stream these frames were read
pub record GoesOn (old : Waiting) (piece : List ℕ) (frames : List Frame) (new : Waiting)
    : Type 0 where
  pub reads : Reads old.types (old.rest ++ piece) frames new.rest
  pub types : new.types ≡ old.types
  pub place : new.place ≡ old.place + length (flat_map frame frames)

-- a piece of the stream was read, and its frames appended
abbrev pub Advances : Waiting → List ℕ → Waiting → List Frame → List Frame → Type 0
Advances old piece new out_old out_new =
    (frames : List Frame) × (out_new ≡ out_old ++ frames) × GoesOn old piece frames new

-- pieces that came one after another, each behind the rest that was left, made these frames and
-- left a rest
pub data ReadsInTurn (types : List (List Ty)) : List ℕ → List (List ℕ) → List Frame → List ℕ
    → Type 0 where
  none : (rest : List ℕ) → ReadsInTurn types rest [] [] rest
  more : (rest piece left end : List ℕ) (pieces : List (List ℕ)) (frames others : List Frame)
      → Reads types (rest ++ piece) frames left → ReadsInTurn types left pieces others end
      → ReadsInTurn types rest (piece ∷ pieces) (frames ++ others) end
