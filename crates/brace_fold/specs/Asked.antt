-- Agents of a list by their places.
use Rattle.std.specs.Prelude.{ℕ, List, [], map, slice_index_or}
use Rattle.brace_model.specs.declared.world.Agent.{Agent}

-- the agents at some places of a list; another agent where a place is past its end
abbrev pub agents_at : List Agent → Agent → List ℕ → List Agent
agents_at agents d places = map (λ place. slice_index_or agents place d) places

-- the agent where there is none
abbrev pub no_agent : Agent
no_agent = record { class = 0; id = 0; states = [] }

-- the agents of some rows of a list
abbrev pub by_row : List Agent → List ℕ → List Agent
by_row agents rows = agents_at agents no_agent rows
