-- What always holds of lanes over links.
use Rattle.std.specs.Prelude.{◌≡◌, ℕ, ◌+◌, ◌*◌, ◌^◌, ◌<◌, ◌≤◌, List, [], ◌∷◌, ◌++◌, length, Option, Some, None, slice_get}
use Rattle.std.specs.List.{AllByRecursion}
use Rattle.brace_core.specs.declared.name.Name.{Name}
use Rattle.brace_core.specs.Schedule.{lane}
use Rattle.brace_core.specs.Lanes.{AreBelow}
use Rattle.brace_model.specs.declared.program.Ty.{Ty}
use Rattle.brace_pieces.specs.declared.setting.Setting.{Setting}
use Rattle.brace_pieces.specs.declared.piece.Piece.{Piece}
use Rattle.brace_pieces.specs.Right.{IsRight}
use Rattle.brace_pieces.specs.Steps.{schedule}
use Rattle.brace_wire.specs.declared.frame.Frame.{Frame}
use Rattle.brace_wire.specs.declared.kept.Kept.{Kept}
use Rattle.brace_wire.specs.declared.receiver.Waiting.{Waiting}
use Rattle.brace_wire.specs.declared.receiver.Waiting.TheVariants as waiting
use Rattle.brace_wire.specs.Fitting.{IsOf, layout}
use Rattle.brace_wire.specs.Net.{Lane, Happens}
use Rattle.brace_wire.specs.Links.{OnLink, OnLinks, link_of, puts_on, takes_on}
use Rattle.brace_wire.specs.Shown.{HasBytes, HasDelivery, Shows}

-- the pieces in a receiver's two places, the oldest first
abbrev pub pieces_of : Waiting → List Piece
pieces_of waiting.Empty = []
pieces_of (waiting.One first) = first ∷ []
pieces_of (waiting.Two first second) = first ∷ second ∷ []

-- the frame of a piece that is kept, where there is one
abbrev pub frames_of : Option Kept → List Frame
frames_of None = []
frames_of (Some kept) = kept.frame ∷ []

-- the frames that are handed over in a link's next round, or later
abbrev pub held : OnLink → List Frame
held link = frames_of link.older ++ (frames_of link.newer ++ link.late)

-- a receiver that has taken so many has a place for a frame where it accepts it
abbrev pub HasPlace : ℕ → List Frame → Type 0
HasPlace taken frames = AllByRecursion (λ f. f.ordinal < taken + 2) frames

-- a piece that is kept is of these classes, and the count of its sendings may rise
abbrev pub CanBeSent : List (List Ty) → Option Kept → Type 0
CanBeSent types None = Unit {0}
CanBeSent types (Some kept) = IsOf types kept.frame.piece

abbrev pub CanCount : Option Kept → Type 0
CanCount None = Unit {0}
CanCount (Some kept) = kept.sent + 1 < 2 ^ 64

-- a round can be made on a link
pub record CanRound (types : List (List Ty)) (link : OnLink) : Type 0 where
  pub older : CanBeSent types link.older
  pub newer : CanBeSent types link.newer
  pub has_place : HasPlace link.receiver.taken (held link)

-- the link from p to q shows a lane that came about by allowed events, on which right pieces were
-- put, no more than the lane has names
pub record Stands (s : Setting) (p q : ℕ) (link : OnLink) : Type 0 where
  pub net : Lane Piece
  pub happens : Happens net
  pub shows : Shows link net
  pub within : length net.puts ≤ length (lane (schedule s) p q)
  pub is_right : (i : ℕ) (name : Name) (piece : Piece) →
      slice_get (lane (schedule s) p q) i ≡ Some name → slice_get net.puts i ≡ Some piece
      → IsRight s name piece

-- lanes serve every name of their setting; at most one more was put on a lane than was taken from
-- the opposite one; each link stands; and right pieces have bytes, of which not all are lost
pub record IsSound (v : OnLinks) (types : List (List Ty)) : Type 0 where
  pub few : v.actors ≤ 65
  pub size : length v.links ≡ v.actors * v.actors
  pub below : AreBelow (schedule v.setting) v.actors
  pub short : length (schedule v.setting).steps ≤ 2 ^ 40
  pub answered : (p q : ℕ) → puts_on v p q ≤ takes_on v q p + 1
  pub each : (p q : ℕ) → Stands v.setting p q (link_of v p q)
  pub types_are : types ≡ layout v.setting.job.program
  pub has_bytes : HasBytes v.setting
  pub delivers : HasDelivery v.fates
