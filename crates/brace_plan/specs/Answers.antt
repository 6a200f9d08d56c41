-- What the query of an agent answers over a list of agents.
use Rattle.std.specs.Prelude.{◌≡◌, ◌<◌, ℕ, ℤ, pos, List, map, fold, length, slice_get, option_map, unwrap_or}
use Rattle.std.specs.Int.{int_max}
use Rattle.std.specs.List.{All}
use Rattle.brace_model.specs.declared.program.Program.{Program}
use Rattle.brace_model.specs.declared.world.Agent.{Agent}
use Rattle.brace_model.specs.FaultOrder.{least}
use Rattle.brace_model.specs.Query.{Saying, query_of}
use Rattle.brace_plan.specs.declared.answer.Said.{Said}
use Rattle.brace_plan.specs.declared.answer.Answer.{Answer}
use Rattle.brace_plan.specs.declared.query.Saying.{Saying as Told}
use Rattle.brace_plan.specs.declared.query.Query.{Query}

-- how far agents of a program see at most, in millionths
abbrev pub greatest_visible : Program → ℤ
greatest_visible program = fold (λ v c. int_max v c.visible) (pos 0) program.classes

-- the id of the agent at a place
abbrev pub id_at : List Agent → ℕ → ℕ
id_at agents place = unwrap_or (option_map (λ a. a.id) (slice_get agents place)) 0

-- what was said to the agent at a place, as it is said to the agent of an id
abbrev pub saying_of : List Agent → Said → Saying
saying_of agents said =
    record { target = id_at agents said.place; field = said.field; value = said.value }

-- each value was said to an agent of the list
abbrev pub ArePlaced : List Agent → List Said → Type 0
ArePlaced agents said = All (λ (s : Said). s.place < length agents) said

-- an answer has all that an agent's query says over a list of agents, and the query's least fault
pub record IsAnswer (program : Program) (seed tick : ℕ) (agents : List Agent) (a : Agent)
    (answer : Answer) : Type 0 where
  pub said : map (saying_of agents) answer.said.items
      ≡ (query_of program seed tick agents a).said
  pub fault : answer.fault ≡ least (query_of program seed tick agents a).faults
  pub placed : ArePlaced agents answer.said.items

-- what a query tells, as it is said
abbrev pub said_by : Told → Saying
said_by told = record { target = told.target; field = told.field; value = told.value }

-- a query tells all that an agent's query says over a list of agents, and its least fault
pub record IsQuery (program : Program) (seed tick : ℕ) (agents : List Agent) (a : Agent)
    (query : Query) : Type 0 where
  pub said : map said_by query.said ≡ (query_of program seed tick agents a).said
  pub fault : query.fault ≡ least (query_of program seed tick agents a).faults
