-- What plain lanes hold, as contracts see them.
use Rattle.std.specs.Prelude.{◌≡◌, ℕ, ◌+◌, ◌*◌, ◌<◌, List, [], cond, nat_lt, filter, length, take, drop, slice_index_or}
use Rattle.brace_core.specs.declared.name.Name.{Name}
use Rattle.brace_core.specs.Schedule.{Schedule, lane}
use Rattle.brace_core.specs.declared.name.Turn.{Turn}
use Rattle.brace_core.specs.Events.{is_on, flight_after}

-- how many names were taken from a lane, and the pieces on it, the oldest first
pub record OnLane (F : Type 0) : Type 0 where
  pub taken : ℕ
  pub pieces : List F

-- the setting that lanes were made for, the number of their actors, and each lane: first those from
-- actor 0 to every actor, then those from actor 1
pub record OnLanes (F S : Type 0) : Type 0 where
  pub setting : S
  pub actors : ℕ
  pub lanes : List (OnLane F)

-- a lane on which nothing was put
abbrev pub fresh : {F : Type 0} → OnLane F
fresh = record { taken = 0; pieces = [] }

-- the lane from p to q; between other actors nothing is ever put
abbrev pub lane_of : {F S : Type 0} → OnLanes F S → ℕ → ℕ → OnLane F
lane_of v p q = cond (nat_lt q v.actors) (slice_index_or v.lanes (p * v.actors + q) fresh) fresh

abbrev pub takes_of : {F S : Type 0} → OnLanes F S → ℕ → ℕ → ℕ
takes_of v p q = (lane_of v p q).taken

abbrev pub puts_of : {F S : Type 0} → OnLanes F S → ℕ → ℕ → ℕ
puts_of v p q = (lane_of v p q).taken + length (lane_of v p q).pieces

-- the names of a schedule are between actors below this number
abbrev pub AreBelow : Schedule → ℕ → Type 0
AreBelow s actors = (p q : ℕ) → 0 < length (lane s p q) → (p < actors) × (q < actors)

-- the names in flight are, on each lane, those that were put and not yet taken
abbrev pub AreInFlight : {F S : Type 0} → Schedule → OnLanes F S → List Name → Type 0
AreInFlight s v flight = (p q : ℕ) →
    filter (is_on p q) flight ≡ drop (takes_of v p q) (take (puts_of v p q) (lane s p q))

-- lanes v become w by a turn: it changes the names in flight as the event does
abbrev pub MakesTurn : {F S : Type 0} → Schedule → OnLanes F S → OnLanes F S → Turn → Type 0
MakesTurn s v w turn = (flight : List Name) →
    AreInFlight s v flight → AreInFlight s w (flight_after flight turn)
