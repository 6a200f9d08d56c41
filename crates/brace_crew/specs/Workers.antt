-- Behind how many steps a run ends, and what of its lanes was used by then.
use Rattle.std.specs.Prelude.{◌≡◌, ◌⊎◌, ℕ, ◌+◌, ◌<◌, nat_le, List, [], filter, length, slice_index_or, Result, Ok, Err}
use Rattle.std.specs.List.{All}
use Rattle.atomic_table.specs.Seated.{TableId}
use Rattle.brace_core.specs.Schedule.{front, lane}
use Rattle.brace_lanes.specs.declared.table.View.{View}
use Rattle.brace_lanes.specs.Seats.{OnSeat}
use Rattle.brace_pieces.specs.declared.setting.Setting.{Setting}
use Rattle.brace_pieces.specs.Settings.{parts, ends}
use Rattle.brace_pieces.specs.Steps.{steps, schedule}
use Rattle.brace_pieces.specs.Fronts.{steps_to}
use Rattle.brace_pieces.specs.declared.counts.Counts.{Counts}
use Rattle.brace_crew.specs.declared.crew.CrewFault.{CrewFault}
use Rattle.brace_crew.specs.declared.crew.CrewFault.TheVariants as crew
use Rattle.brace_desk.specs.declared.publisher.Publisher as publisher
use Rattle.brace_desk.specs.Calls.{calls, IsCut, IsFront}
use Rattle.brace_crew.specs.Benches.{IsUsedTo}

-- how many ends a run has up to a tick
abbrev pub ends_until : Setting → ℕ → ℕ
ends_until s tick = length (filter (λ end. nat_le end tick) (ends s))

-- behind how many steps a run ends, by what it came to: behind all, where it came to its last tick;
-- else behind the second end behind those that were shown to the publisher in full, if it has two:
-- at the first the desk is told, or the publisher refuses, and at the second the desk puts its Halt
-- to all
abbrev pub EndsBehind : {P : Type 0} → publisher.Ghosts P → Setting → P → P → ℕ
    → Result Counts CrewFault → Type 0
EndsBehind of s opening now n (Ok counts) = n ≡ length (steps s)
EndsBehind of s opening now n (Err (crew.Fault f)) = n ≡ steps_to s (ends_until s f.tick + 2)
EndsBehind of s opening now n (Err (crew.Publish x)) =
    (cut : IsCut of s opening now (calls s) x) × (n ≡ steps_to s (cut.made + 2))
EndsBehind of s opening now n (Err crew.NoMemory) =
    (shown : IsFront of s opening now (calls s)) × (n ≡ steps_to s (shown.made + 2))

-- a run did not begin: memory was refused before its first turn
pub record HasNotBegun {P : Type 0} (opening now : P) (answer : Result Counts CrewFault) : Type 0
  where
    pub no_memory : answer ≡ Err crew.NoMemory
    pub same : now ≡ opening

-- a run ended behind so many steps, or did not begin
abbrev pub HasEnded : {P : Type 0} → publisher.Ghosts P → Setting → P → P → ℕ
    → Result Counts CrewFault → Type 0
HasEnded of s opening now n answer =
    EndsBehind of s opening now n answer ⊎ (HasNotBegun opening now answer × (n ≡ 0))

-- of lanes with these counts every name of a run's first steps, so many, was put and taken, and no
-- other
pub record AreUsedTo (s : Setting) (n : ℕ) (puts takes : ℕ → ℕ → ℕ) : Type 0 where
  pub all_put : (p q : ℕ) → puts p q ≡ length (lane (front (schedule s) n) p q)
  pub all_taken : (p q : ℕ) → takes p q ≡ length (lane (front (schedule s) n) p q)

-- an answer that tells behind how many steps a run over links ended
abbrev pub TellsEnd : Result Counts CrewFault → Type 0
TellsEnd (Ok counts) = Unit {0}
TellsEnd (Err (crew.Fault f)) = Unit {0}
TellsEnd (Err x) = ⊥

-- what the seat of a worker knows, among so many workers: which run it is of, and its number
pub record IsSeatOf (s : Setting) (workers number : ℕ) (v : View Setting) : Type 0 where
  pub setting_is : v.setting ≡ s
  pub actors_are : v.actors ≡ parts s + 1
  pub seats_are : v.seats ≡ workers
  pub number_is : v.number ≡ number

-- one seat a worker, by rising number, all of one lanes and used to the end of the first steps, so
-- many
pub record AreSeatsTo (s : Setting) (n workers : ℕ) (seats : List (OnSeat Setting)) : Type 0 where
  pub one_each : length seats ≡ workers
  pub by_number : (k : ℕ) (d : OnSeat Setting) → k < workers →
      IsSeatOf s workers k (slice_index_or seats k d).view
  pub one_lanes : (lanes : TableId) × All (λ seat. seat.lanes ≡ lanes) seats
  pub used_to : All (λ seat. IsUsedTo n seat.view) seats

-- the seats behind a run: used to where it ended; none, where it did not begin
abbrev pub AreLeft : {P : Type 0} → publisher.Ghosts P → Setting → ℕ → P → P
    → Result Counts CrewFault → List (OnSeat Setting) → Type 0
AreLeft of s workers opening now answer seats =
    ((n : ℕ) × (EndsBehind of s opening now n answer × AreSeatsTo s n workers seats))
    ⊎ (HasNotBegun opening now answer × (seats ≡ []))
