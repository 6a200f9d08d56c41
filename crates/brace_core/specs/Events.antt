-- The exchange of pieces as a machine of events, and what a run puts, takes and leaves in flight.
use Rattle.std.specs.Prelude.{◌≡◌, ℕ, ◌+◌, ◌<◌, ◌≤◌, Bool, true, false, ◌==◌, ◌&&◌, nat_lt, cond, IsTrue, List, [], ◌∷◌, ◌++◌, filter, length, take, slice_index_or, sum_by}
use Rattle.std.specs.List.{list_any}
use Rattle.brace_core.specs.declared.name.Name.{Name}
use Rattle.brace_core.specs.declared.name.Turn.{Turn}
use Rattle.brace_core.specs.declared.name.Turn.TheVariants.{Put, Take, Work, Done}
use Rattle.brace_core.specs.Schedule.{Schedule, IsLawful, turns, turn_at, front}

-- how many of its turns each actor has made, and the names in flight in the order of their puts
pub record State : Type 0 where
  pub place : ℕ → ℕ
  pub flight : List Name

-- no turn was made and nothing flies
abbrev pub opening : State
opening = record { place = λ p. 0; flight = [] }

-- two names are one
abbrev pub is_name : Name → Name → Bool
is_name a b = a.step == b.step && (a.from == b.from && a.to == b.to)

-- the next turn of an actor
abbrev pub next : Schedule → State → ℕ → Turn
next s x p = turn_at s p (x.place p)

-- whether a turn can be made: a take where its name is in flight, every other turn at any time
abbrev pub is_ready : List Name → Turn → Bool
is_ready flight (Put n) = true
is_ready flight (Take n) = list_any (is_name n) flight
is_ready flight Work = true
is_ready flight Done = false

-- an event is that an actor makes its next turn; whether actor p's is enabled
abbrev pub is_enabled : Schedule → State → ℕ → Bool
is_enabled s x p = nat_lt p s.actors && is_ready x.flight (next s x p)

-- the names without the first that is n
abbrev pub without : Name → List Name → List Name
without n [] = []
without n (m ∷ names) = cond (is_name n m) names (m ∷ without n names)

-- the names in flight after a turn
abbrev pub flight_after : List Name → Turn → List Name
flight_after flight (Put n) = flight ++ n ∷ []
flight_after flight (Take n) = without n flight
flight_after flight Work = flight
flight_after flight Done = flight

-- the state after the event of actor p
abbrev pub after : Schedule → State → ℕ → State
after s x p = record {
  place = λ a. cond (a == p) (x.place a + 1) (x.place a);
  flight = flight_after x.flight (next s x p);
}

-- whether each event of a list, given by its actor, is enabled when its time comes
abbrev pub are_enabled : Schedule → State → List ℕ → Bool
are_enabled s x [] = true
are_enabled s x (p ∷ events) = is_enabled s x p && are_enabled s (after s x p) events

-- the state after the events of a list
abbrev pub after_all : Schedule → State → List ℕ → State
after_all s x [] = x
after_all s x (p ∷ events) = after_all s (after s x p) events

-- the turns that the events make
abbrev pub turns_made : Schedule → State → List ℕ → List Turn
turns_made s x [] = []
turns_made s x (p ∷ events) = next s x p ∷ turns_made s (after s x p) events

-- no actor has a turn left
abbrev pub AllDone : Schedule → State → Type 0
AllDone s x = (p : ℕ) → p < s.actors → next s x p ≡ Done

-- no actor went behind the first steps, so many
abbrev pub IsWithin : Schedule → ℕ → State → Type 0
IsWithin s n x = (p : ℕ) → p < s.actors → x.place p ≤ length (turns (front s n) p)

-- the name is one of the lane from p to q
abbrev pub is_on : ℕ → ℕ → Name → Bool
is_on p q n = n.from == p && n.to == q

-- the names that the turns put
abbrev pub names_put : List Turn → List Name
names_put [] = []
names_put (Put n ∷ ts) = n ∷ names_put ts
names_put (Take n ∷ ts) = names_put ts
names_put (Work ∷ ts) = names_put ts
names_put (Done ∷ ts) = names_put ts

-- the names that the turns take
abbrev pub names_taken : List Turn → List Name
names_taken [] = []
names_taken (Put n ∷ ts) = names_taken ts
names_taken (Take n ∷ ts) = n ∷ names_taken ts
names_taken (Work ∷ ts) = names_taken ts
names_taken (Done ∷ ts) = names_taken ts

-- the events are enabled one after the other from the opening on
abbrev pub IsRun : Schedule → List ℕ → Type 0
IsRun s events = IsTrue (are_enabled s opening events)

-- a fact of every run of every lawful schedule
abbrev pub OnRuns : (Schedule → List ℕ → Type 0) → Type 0
OnRuns P = (s : Schedule) (events : List ℕ) → IsLawful s → IsRun s events → P s events

-- where a run ends
abbrev pub end_of : Schedule → List ℕ → State
end_of s events = after_all s opening events

-- the names that a run put on the lane from p to q
abbrev pub put_on : Schedule → List ℕ → ℕ → ℕ → List Name
put_on s events p q = filter (is_on p q) (names_put (turns_made s opening events))

-- the names that a run took from the lane
abbrev pub taken_from : Schedule → List ℕ → ℕ → ℕ → List Name
taken_from s events p q = filter (is_on p q) (names_taken (turns_made s opening events))

-- the names that a run left in flight on the lane
abbrev pub in_flight : Schedule → List ℕ → ℕ → ℕ → List Name
in_flight s events p q = filter (is_on p q) (end_of s events).flight

-- the names are the first of all
abbrev pub AreFirst : List Name → List Name → Type 0
AreFirst names all = names ≡ take (length names) all

-- each name has a later step than those before it
abbrev pub RiseByStep : List Name → Type 0
RiseByStep names = (i j : ℕ) (d : Name) → i < j → j < length names →
    (slice_index_or names i d).step < (slice_index_or names j d).step

-- two events for each pair that meets in a step, a put and a take, and one for each actor, a work
abbrev pub events_of : Schedule → ℕ
events_of s = sum_by (λ step. length step + length step + s.actors) s.steps
