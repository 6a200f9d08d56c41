-- A lane over a link that loses, repeats and reorders what it carries.
use Rattle.std.specs.Prelude.{◌≡◌, ℕ, ◌+◌, ◌-◌, ◌<◌, ◌≤◌, ◌==◌, if◌then◌else◌, List, [], ◌∷◌, ◌++◌, length, take, Option, Some, None, slice_get}

-- what a frame carries: the ordinal of a piece in its lane, and the piece
pub record Carried (F : Type 0) : Type 0 where
  pub ordinal : ℕ
  pub piece : F

-- the pieces put, all frames ever sent, the pieces received, and how many of these were taken
pub record Lane (F : Type 0) : Type 0 where
  pub puts : List F
  pub sent : List (Carried F)
  pub received : List F
  pub taken : ℕ

-- a new lane
abbrev pub opening : {F : Type 0} → Lane F
opening = record { puts = []; sent = []; received = []; taken = 0 }

-- what happens on a lane: a piece is put; the newest piece (0) or the one before it (1) is sent; a
-- frame that was ever sent, by its place among them, is handed over; a piece is taken
pub data Event (F : Type 0) : Type 0 where
  put : F → Event F
  send : ℕ → Event F
  hand : ℕ → Event F
  take_next : Event F

-- a frame is received exactly where its ordinal is the next one
abbrev pub handed : {F : Type 0} → Lane F → Carried F → Lane F
handed lane c =
    if c.ordinal == length lane.received
    then record lane { received = lane.received ++ c.piece ∷ [] } else lane

-- an event may happen: fewer than two pieces are in flight at a put, there is such a piece at a
-- send, such a frame at a hand, and a piece that was received and not taken at a take
pub data IsAllowed {F : Type 0} (lane : Lane F) : Event F → Type 0 where
  put : (f : F) → length lane.puts < lane.taken + 2 → IsAllowed lane (Event.put f)
  send : (back : ℕ) → back < 2 → back < length lane.puts → IsAllowed lane (Event.send back)
  hand : (i : ℕ) → i < length lane.sent → IsAllowed lane (Event.hand i)
  take_next : lane.taken < length lane.received → IsAllowed lane Event.take_next

-- the frame of the piece at a place, where there is one
abbrev pub carried : {F : Type 0} → ℕ → Option F → List (Carried F)
carried i None = []
carried i (Some f) = record { ordinal = i; piece = f } ∷ []

-- the place of the newest piece, or of one before it
abbrev pub place_back : {F : Type 0} → Lane F → ℕ → ℕ
place_back lane back = length lane.puts - 1 - back

-- a lane after a frame was handed over, where there is one
abbrev pub after_hand : {F : Type 0} → Lane F → Option (Carried F) → Lane F
after_hand lane None = lane
after_hand lane (Some c) = handed lane c

-- a lane after an event
abbrev pub after : {F : Type 0} → Lane F → Event F → Lane F
after lane (Event.put f) = record lane { puts = lane.puts ++ f ∷ [] }
after lane (Event.send back) =
    record lane {
      sent = lane.sent
          ++ carried (place_back lane back) (slice_get lane.puts (place_back lane back));
    }
after lane (Event.hand i) = after_hand lane (slice_get lane.sent i)
after lane Event.take_next = record lane { taken = lane.taken + 1 }

-- a lane comes about from another by allowed events
pub data Reaches {F : Type 0} (lane : Lane F) : Lane F → Type 0 where
  begin : Reaches lane lane
  next : (later : Lane F) (e : Event F) → Reaches lane later → IsAllowed later e
      → Reaches lane (after later e)

-- a lane comes about from a new one by allowed events
abbrev pub Happens : {F : Type 0} → Lane F → Type 0
Happens lane = Reaches opening lane

-- what was received is a first part of what was put
abbrev pub IsInOrder : {F : Type 0} → Lane F → Type 0
IsInOrder lane = lane.received ≡ take (length lane.received) lane.puts

-- the next piece to be received is one of the last two put, which the sender keeps
abbrev pub IsKept : {F : Type 0} → Lane F → Type 0
IsKept lane = length lane.puts ≤ length lane.received + 2
