-- The text of a checkpoint: a heading, a line for each class, a line for each agent, and an end
-- line; each line ends with its byte 10. Version 2 tells the next free id, version 1 does not.
use Rattle.std.specs.Prelude.{◌≡◌, ℕ, ◌<◌, ◌≤◌, ◌^◌, Bool, true, false, List, [], ◌∷◌, ◌++◌, length, map, flat_map, codes, IsTrue}
use Rattle.std.specs.List.{list_all}
use Rattle.brace_num.specs.Exact.{fits}
use Rattle.brace_num.specs.Spelling.{canonical_count}
use Rattle.brace_model.specs.declared.program.Ty.{Ty}
use Rattle.brace_model.specs.declared.program.Ty.TheVariants as ty
use Rattle.brace_model.specs.declared.program.Value.{Value}
use Rattle.brace_model.specs.declared.program.Value.TheVariants.{Int, Fixed, Flag}
use Rattle.brace_model.specs.declared.program.State.{State}
use Rattle.brace_model.specs.declared.program.Class.{Class}
use Rattle.brace_model.specs.declared.program.Program.{Program}
use Rattle.brace_model.specs.declared.world.Agent.{Agent}
use Rattle.brace_model.specs.Next.{has_births}
use Rattle.brace_model.specs.World.{World, IsNumbered, world_of}
use Rattle.brace_model.specs.Lawful.{LawfulAgents}
use Rattle.brace_model.specs.Published.{agent_text}

-- the name of a type
abbrev pub type_name : Ty → List ℕ
type_name ty.Int = codes "int"
type_name ty.Fixed = codes "fixed"
type_name ty.Bool = codes "bool"

-- ` field:type`
abbrev pub state_text : State → List ℕ
state_text state = 32 ∷ state.name ++ 58 ∷ type_name state.ty

-- `class NAME field:type ..`, with all states of the class
abbrev pub class_line : Class → List ℕ
class_line class = codes "class " ++ class.name ++ flat_map state_text class.states

-- what is saved: a tick, a seed and the world of the tick
pub record Moment : Type 0 where
  pub tick : ℕ
  pub seed : ℕ
  pub world : World

-- a line of a word and a count
abbrev pub count_line : List ℕ → ℕ → List ℕ
count_line word n = word ++ canonical_count n

-- the lines before those of classes; only version 2 tells the next free id
abbrev pub heading : Bool → Moment → List (List ℕ)
heading true moment =
    codes "brace checkpoint 2" ∷ count_line (codes "tick ") moment.tick
    ∷ count_line (codes "seed ") moment.seed ∷ count_line (codes "next ") moment.world.next ∷ []
heading false moment =
    codes "brace checkpoint 1" ∷ count_line (codes "tick ") moment.tick
    ∷ count_line (codes "seed ") moment.seed ∷ []

-- the line behind those of agents
abbrev pub end_line : List Agent → List ℕ
end_line agents = count_line (codes "end ") (length agents)

-- all lines of a checkpoint, in version 2 or 1
abbrev pub lines : Program → Bool → Moment → List (List ℕ)
lines program tells_next moment =
    heading tells_next moment ++ map class_line program.classes
    ++ map (agent_text program) moment.world.agents ++ end_line moment.world.agents ∷ []

-- lines as bytes
abbrev pub text : List (List ℕ) → List ℕ
text lines = flat_map (λ line. line ++ 10 ∷ []) lines

-- the text that is written: of version 2 exactly where a class bears children
abbrev pub checkpoint : Program → Moment → List ℕ
checkpoint program moment = text (lines program (has_births program) moment)

-- a value that 64 bits hold
abbrev pub value_fits : Value → Bool
value_fits (Int n) = fits n
value_fits (Fixed n) = fits n
value_fits (Flag b) = true

-- a moment that a checkpoint may tell: one of version 1 leaves the next free id to be the least
pub record IsMoment (program : Program) (tells_next : Bool) (moment : Moment) : Type 0 where
  pub tick_in_range : moment.tick ≤ 2 ^ 32
  pub seed_in_range : moment.seed < 2 ^ 64
  pub numbered : IsNumbered moment.world
  pub lawful : LawfulAgents program moment.world.agents
  pub values_fit : IsTrue (list_all (λ a. list_all value_fits a.states) moment.world.agents)
  pub least : tells_next ≡ false → moment.world ≡ world_of moment.world.agents
