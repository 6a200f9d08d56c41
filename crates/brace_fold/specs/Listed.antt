-- Agents in columns that are owned, as lists of agents.
use Rattle.std.specs.Prelude.{◌≡◌, ℕ, ℤ, List, map, length, slice_get, slice_index_or}
use Rattle.std.specs.List.{range_with_len}
use Rattle.std.specs.List.Sorted.{IsPermutation}
use denote.Ref.{Bor}
use Rattle.brace_model.specs.declared.program.Program.{Program}
use Rattle.brace_model.specs.declared.world.Agent.{Agent}
use Rattle.brace_model.specs.World.{RisesById}
use Rattle.brace_fold.specs.declared.order.Moved.{Moved}
use Rattle.brace_fold.specs.Rows.{AreMoved, types_of, values_in}

-- the agent of a row of columns of classes, ids and words
abbrev pub agent_of : Program → List ℕ → List ℕ → List (List ℤ) → ℕ → Agent
agent_of program classes ids words row =
    let class = slice_index_or classes row 0 in
    record {
      class = class;
      id = slice_index_or ids row 0;
      states = values_in (types_of (slice_get program.classes class)) words row;
    }

-- the agents of such columns, row by row
abbrev pub agents_by : Program → List ℕ → List ℕ → List (List ℤ) → List Agent
agents_by program classes ids words =
    map (agent_of program classes ids words) (range_with_len 0 (length ids))

-- the agents of columns that are owned, row by row
abbrev pub agents_in : Program → Moved → List Agent
agents_in program moved =
    agents_by program moved.classes.items moved.ids.items moved.states.items

-- columns are those of these agents, which can be read from them
pub record AreListed (program : Program) (agents : List Agent) (rows : Moved) : Type 0 where
  pub moved : AreMoved agents rows
  pub are : agents_in program rows ≡ agents

-- agents by rising id are stored in columns, in some order
pub record AreStored (program : Program) (agents : List Agent) (rows : Moved) : Type 0 where
  pub rises : RisesById agents
  pub those : List Agent
  pub same : IsPermutation agents those
  pub listed : AreListed program those rows

-- views of the states of columns
abbrev pub AreLent : Moved → List (Bor (List ℤ)) → Type 0
AreLent moved states = map (λ v. v.now) states ≡ moved.states.items
