-- What is asked of a call at an exchange, how it counts, and what an actor's turn there comes to.
use Rattle.std.specs.Prelude.{◌≡◌, ℕ, ◌+◌, ◌-◌, List, [], ◌∷◌, cond, Some, filter, length, slice_get, take}
use Rattle.std.specs.List.{range_with_len}
use Rattle.brace_core.specs.declared.name.Name.{Name}
use Rattle.brace_core.specs.declared.name.Turn.{Turn}
use Rattle.brace_core.specs.declared.name.Turn.TheVariants.{Put, Take, Work, Done}
use Rattle.brace_core.specs.declared.turn.Went.{Went}
use Rattle.brace_core.specs.declared.turn.Went.TheVariants.{On, Nowhere, Over}
use Rattle.brace_core.specs.Schedule.{Schedule, front, lane, turns, turn_at}
use Rattle.brace_core.specs.Events.{is_on, names_put, names_taken}

-- the name stands behind the first n of its lane
abbrev pub IsNext : Schedule → Name → ℕ → Type 0
IsNext s name n = slice_get (lane s name.from name.to) n ≡ Some name

-- the name is the next of its lane behind those that were counted there
abbrev pub Follows : Schedule → (ℕ → ℕ → ℕ) → Name → Type 0
Follows s counts name = IsNext s name (counts name.from name.to)

-- as many names were put on the name's lane as were taken from the opposite one
abbrev pub IsAnswered : (ℕ → ℕ → ℕ) → (ℕ → ℕ → ℕ) → Name → Type 0
IsAnswered puts takes name = puts name.from name.to ≡ takes name.to name.from

-- the numbers are those of all actors of the schedule, rising
abbrev pub AreAllOf : Schedule → List ℕ → Type 0
AreAllOf s numbers = numbers ≡ range_with_len 0 s.actors

-- the turn of an actor of this number that has made so many
abbrev pub due : {S : Type 0} → (S → Schedule) → S → ℕ → ℕ → Turn
due schedule setting number past = turn_at (schedule setting) number past

-- the same in the first steps of the schedule, so many
abbrev pub due_to : {S : Type 0} → (S → Schedule) → S → ℕ → ℕ → ℕ → Turn
due_to schedule setting end number past = turn_at (front (schedule setting) end) number past

-- 1 at the name's lane, 0 at every other
abbrev pub one_on : Name → ℕ → ℕ → ℕ
one_on name p q = cond (is_on p q name) 1 0

-- whether a turn is a put, or a take
abbrev pub IsPut : Turn → Type 0
IsPut (Put name) = Unit {0}
IsPut (Take name) = ⊥
IsPut Work = ⊥
IsPut Done = ⊥

abbrev pub IsTake : Turn → Type 0
IsTake (Put name) = ⊥
IsTake (Take name) = Unit {0}
IsTake Work = ⊥
IsTake Done = ⊥

-- how many names of a lane a turn puts, and takes
abbrev pub put_by : Turn → ℕ → ℕ → ℕ
put_by turn p q = length (filter (is_on p q) (names_put (turn ∷ [])))

abbrev pub taken_by : Turn → ℕ → ℕ → ℕ
taken_by turn p q = length (filter (is_on p q) (names_taken (turn ∷ [])))

-- an exchange that serves these actors, and put and took so many names, serves one of this number
-- and counts what so many turns of it put and took
pub record IsCounted (s : Schedule) (number past : ℕ) (serves : ℕ → Type 0) (puts takes : ℕ → ℕ → ℕ)
    : Type 0 where
  pub served : serves number
  pub put : (q : ℕ) → puts number q
      ≡ length (filter (is_on number q) (names_put (take past (turns s number))))
  pub taken : (q : ℕ) → takes q number
      ≡ length (filter (is_on q number) (names_taken (take past (turns s number))))

-- how an actor went on that had this turn next: by this one turn; not at all, as the name that it
-- takes is missed; or not at all, as it is Done
abbrev pub WentBy : {A : Type 0} → (A → ℕ) → (Name → Type 0) → Turn → A → A → Went → Type 0
WentBy past missed turn a b On = (past b ≡ past a + 1) × (turn ≡ Done → ⊥)
WentBy past missed turn a b Nowhere = (b ≡ a) × ((name : Name) × (turn ≡ Take name) × missed name)
WentBy past missed turn a b Over = (b ≡ a) × (turn ≡ Done)

-- the turn that an actor made that had this turn next and so went on, or Done
abbrev pub made_by : Turn → Went → Turn
made_by turn On = turn
made_by turn Nowhere = Done
made_by turn Over = Done

-- how many turns an actor has left
abbrev pub turns_left : {A S : Type 0} → (A → S) → (A → ℕ) → (A → ℕ) → (S → Schedule) → A → ℕ
turns_left setting number past schedule a =
    length (turns (schedule (setting a)) (number a)) - past a
