-- Schedules: which actors meet in which step, and from that each lane's names and actor's turns.
use Rattle.std.specs.Prelude.{◌≡◌, ℕ, suc, ◌<◌, ◌≤◌, Bool, false, ◌==◌, ◌&&◌, cond, IsTrue, List, [], ◌∷◌, ◌++◌, map, filter, count_by, take, slice_index_or}
use Rattle.std.specs.List.{All, list_any, range_with_len}
use Rattle.brace_core.specs.declared.name.Name.{Name}
use Rattle.brace_core.specs.declared.name.Turn.{Turn}
use Rattle.brace_core.specs.declared.name.Turn.TheVariants.{Put, Take, Work, Done}

-- an ordered pair of actors
pub record Pair : Type 0 where
  pub from : ℕ
  pub to : ℕ

-- how many actors there are, and for each step the pairs that meet in it
pub record Schedule : Type 0 where
  pub actors : ℕ
  pub steps : List (List Pair)

abbrev pub is_pair : ℕ → ℕ → Pair → Bool
is_pair p q pair = pair.from == p && pair.to == q

-- whether p and q meet in a step
abbrev pub meets : List Pair → ℕ → ℕ → Bool
meets step p q = list_any (is_pair p q) step

-- a step lists pairs of different actors of this number, both ways and each once
pub record IsLawfulStep (actors : ℕ) (step : List Pair) : Type 0 where
  pub below : (p q : ℕ) → IsTrue (meets step p q) → p < actors
  pub different : (p : ℕ) → meets step p p ≡ false
  pub both_ways : (p q : ℕ) → meets step p q ≡ meets step q p
  pub once : (p q : ℕ) → count_by (is_pair p q) step ≤ 1

abbrev pub IsLawful : Schedule → Type 0
IsLawful s = All (IsLawfulStep s.actors) s.steps

-- the front of a schedule: its first steps, so many
abbrev pub front : Schedule → ℕ → Schedule
front s n = record s { steps = take n s.steps }

abbrev pub name : ℕ → ℕ → ℕ → Name
name k p q = record { step = k; from = p; to = q }

-- the names of the lane from p to q in steps that are numbered from k on
abbrev pub names_from : ℕ → List (List Pair) → ℕ → ℕ → List Name
names_from k [] p q = []
names_from k (step ∷ steps) p q =
    cond (meets step p q) (name k p q ∷ names_from (suc k) steps p q) (names_from (suc k) steps p q)

-- a lane's names: one for each step in which its two actors meet, in order
abbrev pub lane : Schedule → ℕ → ℕ → List Name
lane s p q = names_from 0 s.steps p q

-- whom p meets in a step, by rising number
abbrev pub met : ℕ → List Pair → ℕ → List ℕ
met actors step p = filter (meets step p) (range_with_len 0 actors)

abbrev pub puts : ℕ → ℕ → List ℕ → List Turn
puts k p others = map (λ q. Put (name k p q)) others

abbrev pub takes : ℕ → ℕ → List ℕ → List Turn
takes k p others = map (λ q. Take (name k q p)) others

-- in each step an actor puts to each whom it meets, then takes from each, then works once
abbrev pub turns_from : ℕ → ℕ → List (List Pair) → ℕ → List Turn
turns_from k actors [] p = []
turns_from k actors (step ∷ steps) p =
    puts k p (met actors step p)
    ++ (takes k p (met actors step p) ++ (Work ∷ turns_from (suc k) actors steps p))

abbrev pub turns : Schedule → ℕ → List Turn
turns s p = turns_from 0 s.actors s.steps p

-- the turn of p after so many: the first that is left, or Done
abbrev pub turn_at : Schedule → ℕ → ℕ → Turn
turn_at s p past = slice_index_or (turns s p) past Done
