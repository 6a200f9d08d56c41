-- What stands at both ends of a link is what a lane over it comes to: each call is a list of events
-- of its lanes.
use Rattle.std.specs.Prelude.{◌≡◌, ℕ, ◌+◌, ◌<◌, cond, List, [], ◌∷◌, ◌++◌, length, drop, Bool, true, false, Option, Some, None, slice_get, slice_index_or}
use Rattle.std.specs.List.{AllByRecursion}
use Rattle.brace_core.specs.declared.name.Name.{Name}
use Rattle.brace_core.specs.Events.{is_on}
use Rattle.brace_pieces.specs.declared.setting.Setting.{Setting}
use Rattle.brace_pieces.specs.declared.piece.Piece.{Piece}
use Rattle.brace_pieces.specs.Right.{IsRight}
use Rattle.brace_wire.specs.declared.frame.Frame.{Frame}
use Rattle.brace_wire.specs.declared.fate.Fate.{Fate}
use Rattle.brace_wire.specs.declared.fate.Fate.TheVariants.{Lose}
use Rattle.brace_wire.specs.declared.kept.Kept.{Kept}
use Rattle.brace_wire.specs.Fitting.{IsOf, layout}
use Rattle.brace_wire.specs.Net.{Carried, Lane, Happens, Reaches}
use Rattle.brace_wire.specs.Links.{OnLink, OnLinks, link_of}

-- every piece that is right for a name is of the program's classes
abbrev pub HasBytes : Setting → Type 0
HasBytes s =
    (name : Name) (piece : Piece) → IsRight s name piece → IsOf (layout s.job.program) piece

-- a frame is lost
abbrev pub is_lost : Fate → Bool
is_lost Lose = true
is_lost _ = false

-- of some fates one is other than a loss
pub record HasDelivery (fates : List Fate) : Type 0 where
  pub place : ℕ
  pub within : place < length fates
  pub delivers : is_lost (slice_index_or fates place Lose) ≡ false

-- what a frame carries
abbrev pub carried_by : Frame → Carried Piece
carried_by f = record { ordinal = f.ordinal; piece = f.piece }

-- a frame is one of those that were sent on a lane
pub record WasSent (sent : List (Carried Piece)) (f : Frame) : Type 0 where
  pub place : ℕ
  pub is : slice_get sent place ≡ Some (carried_by f)

-- a piece that is kept is the one that was put so many before the end, from 1; there is one where
-- so many were put
abbrev pub IsBack : List Piece → ℕ → Option Kept → Type 0
IsBack puts n None = length puts < n
IsBack puts n (Some kept) =
    (kept.frame.ordinal + n ≡ length puts)
    × (slice_get puts kept.frame.ordinal ≡ Some kept.frame.piece)

-- a link shows a lane: the count of its puts, the last two of these, frames that were sent, and
-- which pieces were received and taken
pub record Shows (link : OnLink) (lane : Lane Piece) : Type 0 where
  pub put : link.put ≡ length lane.puts
  pub older : IsBack lane.puts 2 link.older
  pub newer : IsBack lane.puts 1 link.newer
  pub late : AllByRecursion (WasSent lane.sent) link.late
  pub taken : link.receiver.taken ≡ lane.taken
  pub waiting : link.receiver.waiting ≡ drop lane.taken lane.received

-- a link shows a lane that comes about from another by allowed events, which put these pieces
pub record ShowsLater (more : List Piece) (lane : Lane Piece) (link : OnLink) : Type 0 where
  pub later : Lane Piece
  pub reaches : Reaches lane later
  pub puts : later.puts ≡ lane.puts ++ more
  pub shows : Shows link later

-- one link becomes another by allowed events of the lane that it shows, which put these pieces
abbrev pub Becomes : List Piece → OnLink → OnLink → Type 0
Becomes more a b = (lane : Lane Piece) → Happens lane → Shows a lane → ShowsLater more lane b

-- all links become others by such events, and nothing is put
abbrev pub GoOn : OnLinks → OnLinks → Type 0
GoOn v w = (p q : ℕ) → Becomes [] (link_of v p q) (link_of w p q)

-- and a piece is put, on the lane of its name alone
abbrev pub GoOnWith : Name → Piece → OnLinks → OnLinks → Type 0
GoOnWith name piece v w =
    (p q : ℕ) → Becomes (cond (is_on p q name) (piece ∷ []) []) (link_of v p q) (link_of w p q)
