-- Lanes over links as contracts see them: what stands at both ends of each, and what a round does.
use Rattle.std.specs.Prelude.{ℕ, ◌+◌, ◌*◌, ◌%◌, ◌==◌, nat_lt, cond, if◌then◌else◌, List, [], ◌∷◌, ◌++◌, length, fold, slice_index_or, Option, Some, None}
use Rattle.brace_core.specs.declared.name.Name.{Name}
use Rattle.brace_pieces.specs.declared.setting.Setting.{Setting}
use Rattle.brace_pieces.specs.declared.piece.Piece.{Piece}
use Rattle.brace_wire.specs.declared.frame.Frame.{Frame}
use Rattle.brace_wire.specs.declared.fate.Fate.{Fate}
use Rattle.brace_wire.specs.declared.fate.Fate.TheVariants.{Lose, Deliver, Twice, After}
use Rattle.brace_wire.specs.declared.kept.Kept.{Kept}

-- the receiver of a lane: how many pieces were taken from it, and which were received and not taken
pub record OnReceiver : Type 0 where
  pub taken : ℕ
  pub waiting : List Piece

-- one lane: how many pieces were put, the last two of them, which its sender keeps, the frames that
-- are handed over at the end of the next round, and its receiver
pub record OnLink : Type 0 where
  pub put : ℕ
  pub older : Option Kept
  pub newer : Option Kept
  pub late : List Frame
  pub receiver : OnReceiver

-- the setting that lanes were made for, the number of their actors, what becomes of sendings in
-- turn, how many rounds were made, and each lane: first those from actor 0 to every actor, then
-- those from actor 1
pub record OnLinks : Type 0 where
  pub setting : Setting
  pub actors : ℕ
  pub fates : List Fate
  pub rounds : ℕ
  pub links : List OnLink

-- a lane on which nothing was put
abbrev pub fresh : OnLink
fresh = record {
  put = 0;
  older = None;
  newer = None;
  late = [];
  receiver = record { taken = 0; waiting = [] };
}

-- the lane from p to q; between other actors nothing is ever put
abbrev pub link_of : OnLinks → ℕ → ℕ → OnLink
link_of v p q = cond (nat_lt q v.actors) (slice_index_or v.links (p * v.actors + q) fresh) fresh

-- how many pieces a receiver has received
abbrev pub received : OnReceiver → ℕ
received r = r.taken + length r.waiting

abbrev pub puts_on : OnLinks → ℕ → ℕ → ℕ
puts_on v p q = (link_of v p q).put

abbrev pub takes_on : OnLinks → ℕ → ℕ → ℕ
takes_on v p q = (link_of v p q).receiver.taken

abbrev pub received_on : OnLinks → ℕ → ℕ → ℕ
received_on v p q = received (link_of v p q).receiver

-- a piece was put: the sender keeps it and the one before it
abbrev pub with_put : OnLink → Name → Piece → OnLink
with_put link name piece = record link {
  put = link.put + 1;
  older = link.newer;
  newer = Some (record {
    frame = record { from = name.from; to = name.to; ordinal = link.put; piece = piece };
    sent = 0;
  });
}

-- a receiver that has taken so many, after a take
abbrev pub taken_at : ℕ → List Piece → OnReceiver
taken_at n [] = record { taken = n; waiting = [] }
taken_at n (piece ∷ rest) = record { taken = n + 1; waiting = rest }

-- a receiver after a frame was handed over: its piece is received exactly where its ordinal is the
-- next one
abbrev pub accepted : OnReceiver → Frame → OnReceiver
accepted r f =
    if f.ordinal == received r then record r { waiting = r.waiting ++ f.piece ∷ [] } else r

-- what becomes of the n-th sending of a piece
abbrev pub fate_of : List Fate → ℕ → Fate
fate_of fates n = slice_index_or fates (n % length fates) Lose

-- the frames that are handed over at once where a frame is sent, by its fate
abbrev pub at_once : Fate → Frame → List Frame
at_once Lose f = []
at_once Deliver f = f ∷ []
at_once Twice f = f ∷ f ∷ []
at_once After f = []

-- those that are handed over at the end of the next round
abbrev pub late_of : Fate → Frame → List Frame
late_of After f = f ∷ []
late_of _ f = []

-- the same of a piece that is kept, where there is one
abbrev pub sent_at_once : List Fate → Option Kept → List Frame
sent_at_once fates None = []
sent_at_once fates (Some kept) = at_once (fate_of fates kept.sent) kept.frame

abbrev pub sent_late : List Fate → Option Kept → List Frame
sent_late fates None = []
sent_late fates (Some kept) = late_of (fate_of fates kept.sent) kept.frame

-- a piece was sent once more
abbrev pub sent_again : Option Kept → Option Kept
sent_again None = None
sent_again (Some kept) = Some (record kept { sent = kept.sent + 1 })

-- a lane after a round: both pieces were sent once, the older first, and at the end those frames
-- were handed over that came late in the round before
abbrev pub after_round : List Fate → OnLink → OnLink
after_round fates link = record {
  put = link.put;
  older = sent_again link.older;
  newer = sent_again link.newer;
  late = sent_late fates link.older ++ sent_late fates link.newer;
  receiver = fold accepted link.receiver
      (sent_at_once fates link.older ++ (sent_at_once fates link.newer ++ link.late));
}
