-- What was said so far to the agents of a list: one table of their totals, agent after agent,
-- effect after effect, and one of how many values each total joins.
use Rattle.std.specs.Prelude.{◌≡◌, ◌<◌, ℕ, ℤ, List, [], map, flat_map, length, take, slice_get, slice_index_or, Option, Some, None}
use Rattle.std.specs.List.{All}
use Rattle.brace_model.specs.declared.program.Class.{Class}
use Rattle.brace_model.specs.declared.program.Comb.TheVariants.{Count}
use Rattle.brace_model.specs.declared.program.Effect.{Effect}
use Rattle.brace_model.specs.declared.program.Program.{Program}
use Rattle.brace_model.specs.declared.fault.Fault.{Fault}
use Rattle.brace_model.specs.declared.world.Agent.{Agent}
use Rattle.brace_model.specs.World.{class_of}
use Rattle.brace_model.specs.FaultOrder.{least}
use Rattle.brace_model.specs.Query.{Saying, query_of}
use Rattle.brace_model.specs.Total.{total_of, totals_from}
use Rattle.brace_eval.specs.declared.heard.Heard.{Heard}

-- the effects of a class, where there is one
abbrev pub effects_in : Option Class → List Effect
effects_in None = []
effects_in (Some class) = class.effects

-- the totals of an agent after some sayings
abbrev pub row_of : Program → List Saying → Agent → List ℤ
row_of program said a = totals_from 0 a.id (effects_in (class_of program a)) said

-- the totals of agents after some sayings
abbrev pub table_of : Program → List Saying → List Agent → List ℤ
table_of program said agents = flat_map (row_of program said) agents

-- an effect that counts the values said
abbrev pub counted : Effect → Effect
counted e = record e { comb = Count }

-- a class whose effects count the values said
abbrev pub counting_class : Class → Class
counting_class class = record class { effects = map counted class.effects }

-- the program in which every effect counts the values said
abbrev pub counting : Program → Program
counting program = record program { classes = map counting_class program.classes }

-- the places at which the rows of the first agents begin
abbrev pub AreStarts : Program → List Agent → List ℕ → Type 0
AreStarts program agents starts =
    (i d : ℕ) → i < length starts
    → slice_index_or starts i d ≡ length (table_of program [] (take i agents))

-- these values were said to the agents of a list, and these faults were met
pub record IsHeard (program : Program) (agents : List Agent) (said : List Saying)
    (faults : List Fault) (heard : Heard) : Type 0 where
  pub totals : heard.totals.items ≡ table_of program said agents
  pub counts : heard.counts.items ≡ table_of (counting program) said agents
  pub least : heard.least ≡ least faults
  pub each_starts : length heard.starts.items ≡ length agents
  pub starts : AreStarts program agents heard.starts.items

-- what the queries of some agents say, on the states of a world
abbrev pub said_by : Program → ℕ → ℕ → List Agent → List Agent → List Saying
said_by program seed tick world asking =
    flat_map (λ a. (query_of program seed tick world a).said) asking

-- the faults of the queries of some agents, on the states of a world
abbrev pub faults_by : Program → ℕ → ℕ → List Agent → List Agent → List Fault
faults_by program seed tick world asking =
    flat_map (λ a. (query_of program seed tick world a).faults) asking

-- all of these values are said to one effect of an agent; their total has this number, and they are
-- so many
pub record AreTold (program : Program) (a : Agent) (field : ℕ) (number : ℤ) (count : ℕ)
    (told : List Saying) : Type 0 where
  pub effect : Effect
  pub has : slice_get (effects_in (class_of program a)) field ≡ Some effect
  pub alone : All (λ s. (s.target ≡ a.id) × (s.field ≡ field)) told
  pub total : number ≡ total_of effect.comb (map (λ s. s.value) told)
  pub many : count ≡ length told
