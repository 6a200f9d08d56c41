-- What is known of the agents of a world where its parts make it together.
use Rattle.std.specs.Prelude.{◌≡◌, ℕ, ◌==◌, List, length, map, filter_map, Option, Some, option_map, FitsSigned}
use Rattle.std.specs.List.{Contains, position_from}
use Rattle.std.specs.List.Sorted.{IsPermutation, IsNonDecreasingBy}
use Rattle.std.specs.Int.{w64}
use Rattle.brace_model.specs.declared.program.Class.{Class}
use Rattle.brace_model.specs.declared.program.Program.{Program}
use Rattle.brace_model.specs.declared.world.Agent.{Agent}
use Rattle.brace_model.specs.World.{World, ids, class_of, number, value_at}
use Rattle.brace_model.specs.Step.{living, children}
use Rattle.brace_pieces.specs.declared.setting.Setting.{Setting}
use Rattle.brace_pieces.specs.Continued.{said, becomes, left_or_kept, all_left, fitting}

-- an agent has a value for each state of its class, and these are numbers of 64 bits
pub record IsWhole (class : Class) (a : Agent) : Type 0 where
  pub has_values : length a.states ≡ length class.states
  pub values_fit : (i : ℕ) → FitsSigned w64 (number (value_at a.states i))

-- all agents of a class are whole
abbrev pub AreWhole : Program → List Agent → Type 0
AreWhole program agents =
    (a : Agent) (class : Class) → Contains agents a → class_of program a ≡ Some class
    → IsWhole class a

-- each agent is of a class of the program
abbrev pub HaveClasses : Program → List Agent → Type 0
HaveClasses program agents =
    (a : Agent) → Contains agents a → (class : Class) × (class_of program a ≡ Some class)

-- agents of some lists in a row, in an order in which ids do not fall
pub record IsSorted (lists agents : List Agent) : Type 0 where
  pub same : IsPermutation lists agents
  pub in_order : IsNonDecreasingBy (λ a. a.id) agents

-- the agents of a world that some of its agents are in the next one
abbrev pub left_of : Setting → ℕ → List Agent → List Agent → List Agent
left_of s tick world own =
    living (map (λ a. left_or_kept a (becomes s tick (said s tick world) a)) own)

-- the children that some agents of a world have; each still bears its parent's id
abbrev pub children_of : Setting → ℕ → List Agent → List Agent → List Agent
children_of s tick world own =
    children (map (λ a. left_or_kept a (becomes s tick (said s tick world) a)) own)

-- all children that are born, by rank
abbrev pub all_born : Setting → ℕ → World → List Agent
all_born s tick world =
    let left = all_left s tick world.agents in
    fitting (living left) world.next (children left)

-- a child with the id of its rank among those that are born, if it is one of them
abbrev pub with_number : ℕ → List ℕ → Agent → Option Agent
with_number next parents c =
    option_map (λ n. record c { id = n }) (position_from (λ id. id == c.id) next parents)

-- the children that are born to some agents of a world, with ids of their own
abbrev pub born_of : Setting → ℕ → World → List Agent → List Agent
born_of s tick world own =
    filter_map (with_number world.next (ids (all_born s tick world)))
    (children_of s tick world.agents own)
