-- A world: agents by rising id, each with its states, and the next free id; and which agents see
-- which.
use Rattle.std.specs.Prelude.{List, ℕ, ◌+◌, ◌<◌, ◌≤◌, ◌^◌, map, slice_get, unwrap_or, ℤ, pos, nat_abs, ◌-ℤ◌, int_le, Bool, false, not, ◌&&◌, ◌==◌, if◌then◌else◌, Option, Some, option_map, length, ◌-◌}
use Rattle.std.specs.List.{All}
use Rattle.std.specs.List.Sorted.{IsStrictlyIncreasing}
use Rattle.brace_model.specs.declared.program.Value.{Value}
use Rattle.brace_model.specs.declared.program.Value.TheVariants.{Int, Fixed, Flag}
use Rattle.brace_model.specs.declared.program.Class.{Class}
use Rattle.brace_model.specs.declared.program.Program.{Program}
use Rattle.brace_model.specs.declared.world.Agent.{Agent}

-- the agents of a tick, and the id that the next child gets
pub record World : Type 0 where
  pub agents : List Agent
  pub next : ℕ

-- each agent's id
abbrev pub ids : List Agent → List ℕ
ids agents = map (λ a. a.id) agents

-- each agent's id is above that of the agent before it
abbrev pub RisesById : List Agent → Type 0
RisesById agents = IsStrictlyIncreasing (ids agents)

-- ids rise, and all are below the next free id, which is at most 2^63
pub record IsNumbered (world : World) : Type 0 where
  pub rises : RisesById world.agents
  pub below : All (λ a. a.id < world.next) world.agents
  pub in_range : world.next ≤ 2 ^ 63

-- one more than the last id, which is the greatest of rising ids, or 0 where there is no agent
abbrev pub least_next : List Agent → ℕ
least_next agents = unwrap_or (option_map (λ a. a.id + 1) (slice_get agents (length agents - 1))) 0

-- the world of these agents with this next free id
abbrev pub world_with : List Agent → ℕ → World
world_with agents next = record { agents = agents; next = next }

-- the world of these agents with the least next free id
abbrev pub world_of : List Agent → World
world_of agents = world_with agents (least_next agents)

-- what stands where a script that is not lawful names nothing
abbrev pub no_value : Value
no_value = Flag false

-- the whole number of a value: millionths of a fixed one, 0 or 1 of a flag
abbrev pub number : Value → ℤ
number (Int n) = n
number (Fixed n) = n
number (Flag b) = if b then pos 1 else pos 0

-- the value at a place
abbrev pub value_at : List Value → ℕ → Value
value_at values i = unwrap_or (slice_get values i) no_value

-- the class of an agent
abbrev pub class_of : Program → Agent → Option Class
class_of program a = slice_get program.classes a.class

-- where an agent of a class stands, along x and along y
abbrev pub x_of : Class → Agent → ℤ
x_of class a = number (value_at a.states class.x)

abbrev pub y_of : Class → Agent → ℤ
y_of class a = number (value_at a.states class.y)

-- two numbers are at most so far apart; the difference is exact
abbrev pub is_within : ℤ → ℤ → ℤ → Bool
is_within range p q = int_le (pos (nat_abs (p -ℤ q))) range

-- agents of two classes, of which the first is within the first one's visible range of the second
-- along both axes
abbrev pub reaches_to : Option Class → Option Class → Agent → Agent → Bool
reaches_to (Some c) (Some d) a b =
    is_within c.visible (x_of c a) (x_of d b) && is_within c.visible (y_of c a) (y_of d b)
reaches_to _ _ a b = false

-- agent a sees agent b: they are two, and b is within the visible range of a's class along both
-- axes
abbrev pub sees : Program → Agent → Agent → Bool
sees program a b = not (a.id == b.id) && reaches_to (class_of program a) (class_of program b) a b
