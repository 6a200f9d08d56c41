-- What each step of a reading finds in the lines of a file. Lines are counted from 0 here.
use Rattle.std.specs.Prelude.{◌≡◌, ℕ, ◌+◌, ◌<◌, ◌≤◌, ◌^◌, ◌++◌, Bool, true, false, List, [], length, map, take, slice_index_or, codes, Result, Ok, Err}
use Rattle.brace_model.specs.declared.program.Program.{Program}
use Rattle.brace_model.specs.declared.world.Agent.{Agent}
use Rattle.brace_model.specs.Published.{agent_text}
use Rattle.brace_model.specs.Step.{most_agents, most_values, count_values}
use Rattle.brace_model.specs.World.{world_with, least_next}
use Rattle.brace_save.specs.declared.kinds.PointFault.{PointFault}
use Rattle.brace_save.specs.declared.kinds.PointFault.TheVariants as fault
use Rattle.brace_save.specs.declared.read.Heading.{Heading}
use Rattle.brace_save.specs.Texts.{Moment, IsMoment, class_line, count_line, heading}

-- the line at a place
abbrev pub line : List (List ℕ) → ℕ → List ℕ
line all i = slice_index_or all i []

-- the line at a place is of a word and a count in range; or it is another one, or missing
pub data IsCountAt (all : List (List ℕ)) (i : ℕ) (word : List ℕ) (most : ℕ) :
    Result ℕ PointFault → Type 0 where
  found : (n : ℕ) → i < length all → n ≤ most → line all i ≡ count_line word n
      → IsCountAt all i word most (Ok n)
  other : i < length all → ((n : ℕ) → n ≤ most → line all i ≡ count_line word n → ⊥)
      → IsCountAt all i word most (Err (fault.BadLine (i + 1)))
  missing : length all ≤ i → IsCountAt all i word most (Err fault.Incomplete)
  no_memory : IsCountAt all i word most (Err fault.NoMemory)

-- the first line of a checkpoint that tells the next free id, or does not
abbrev pub version : Bool → List ℕ
version true = codes "brace checkpoint 2"
version false = codes "brace checkpoint 1"

-- how many lines stand before those of classes
abbrev pub place : Bool → ℕ
place true = 4
place false = 3

-- the next free id: the one that is told, or the least
abbrev pub next_of : Bool → ℕ → List Agent → ℕ
next_of true next agents = next
next_of false next agents = least_next agents

-- what a heading and these agents tell
abbrev pub moment_of : Bool → ℕ → ℕ → ℕ → List Agent → Moment
moment_of tells_next tick seed next agents =
    record { tick = tick; seed = seed; world = world_with agents (next_of tells_next next agents) }

abbrev pub told : Heading → List Agent → Moment
told h agents = moment_of h.tells_next h.tick h.seed h.next agents

-- the first lines are those of a heading, whose numbers are in range
pub record IsHeading (all : List (List ℕ)) (h : Heading) : Type 0 where
  pub tick_in_range : h.tick ≤ 2 ^ 32
  pub seed_in_range : h.seed < 2 ^ 64
  pub next_in_range : h.next ≤ 2 ^ 63
  pub greatest : h.tells_next ≡ false → h.next ≡ 2 ^ 63
  pub there : place h.tells_next ≤ length all
  pub same : take (place h.tells_next) all ≡ heading h.tells_next (told h [])

-- all lines of a moment but for its end line
abbrev pub front : Program → Bool → Moment → List (List ℕ)
front program tells_next moment =
    heading tells_next moment ++ map class_line program.classes
    ++ map (agent_text program) moment.world.agents

-- how many they are
abbrev pub front_length : Program → Bool → List Agent → ℕ
front_length program tells_next agents =
    place tells_next + length program.classes + length agents

-- the first lines tell a heading, the classes, and these agents, with which a moment is told
pub record IsFront (program : Program) (h : Heading) (agents : List Agent)
    (all : List (List ℕ)) : Type 0 where
  pub moment_is : IsMoment program h.tells_next (told h agents)
  pub greatest : h.tells_next ≡ false → h.next ≡ 2 ^ 63
  pub there : front_length program h.tells_next agents ≤ length all
  pub same : take (front_length program h.tells_next agents) all
      ≡ front program h.tells_next (told h agents)

-- an agent may stand behind others: ids rise, and limits hold
pub record MayFollow (agents : List Agent) (next : ℕ) (a : Agent) : Type 0 where
  pub after : least_next agents ≤ a.id
  pub below : a.id < next
  pub few_agents : length agents < most_agents
  pub few_values : count_values agents + length a.states ≤ most_values
