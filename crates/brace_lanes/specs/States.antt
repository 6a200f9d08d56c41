-- What the words of lanes show of the exchange core: which names are in flight, and which turn a
-- store makes.
use Rattle.std.specs.Prelude.{◌≡◌, ℕ, ◌+◌, ◌<◌, IsTrue, List, drop, filter, slice_index, slice_set, take}
use mathlib.Core.Option.{some}
use lib.ListN.{get_elem?}
use Rattle.atomic_table.specs.Table.{State}
use Rattle.brace_core.specs.declared.name.Name.{Name}
use Rattle.brace_core.specs.declared.name.Turn.{Turn}
use Rattle.brace_core.specs.Schedule.{Schedule, lane}
use Rattle.brace_core.specs.Events.{flight_after, is_on, is_ready}
use Rattle.brace_lanes.specs.declared.table.View.{View}
use Rattle.brace_lanes.specs.Places.{place, put_word, taken_word, put_of, taken_of}
use Rattle.brace_lanes.specs.Views.{Serves}
use Rattle.brace_lanes.specs.Rule.{KeptAmong}

-- names fly as the words of n actors tell: on each lane those that were put and not yet taken
abbrev pub Fly : Schedule → ℕ → List ℕ → List Name → Type 0
Fly s n words flight = (p q : ℕ) → p < n → q < n →
    filter (is_on p q) flight
    ≡ drop (taken_of n words p q) (take (put_of n words p q) (lane s p q))

-- words become others by a turn: it can be made, and changes which names fly as it does
abbrev pub MakesTurn : Schedule → ℕ → List ℕ → List ℕ → Turn → Type 0
MakesTurn s n before after turn = (flight : List Name) → Fly s n before flight →
    IsTrue (is_ready flight turn) × Fly s n after (flight_after flight turn)

-- the words behind a store of a seat: one more name is put from a to b, or taken of b by a
abbrev pub put_stored : {S : Type 0} → ℕ → View S → List ℕ → ℕ → ℕ → List ℕ
put_stored n v words a b =
    slice_set words (put_word n a b) (slice_index v.put (place n a b) + 1)

abbrev pub taken_stored : {S : Type 0} → ℕ → View S → List ℕ → ℕ → ℕ → List ℕ
taken_stored n v words a b =
    slice_set words (taken_word n a b) (slice_index v.taken (place n a b) + 1)

-- a fact of each seat at every moment, and of each name of a lane of an actor that it serves
abbrev pub OnSeats : (X S : Type 0) → (ℕ → List ℕ → View S → Name → Type 0) → Type 0
OnSeats X S P = (n seats made : ℕ) (s : State X (View S)) → KeptAmong n seats made s →
    (j : ℕ) (v : View S) → get_elem? s.views j ≡ some v → (name : Name) →
    name.from < n → name.to < n → P n s.words v name
