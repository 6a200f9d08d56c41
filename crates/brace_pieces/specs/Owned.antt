-- Which agents of a world a part owns, and which it holds beside them.
use Rattle.std.specs.Prelude.{ℕ, ◌==◌, ℤ, List, filter, Bool, false, Option, Some, None}
use Rattle.brace_model.specs.declared.program.Program.{Program}
use Rattle.brace_model.specs.declared.program.Class.{Class}
use Rattle.brace_model.specs.declared.world.Agent.{Agent}
use Rattle.brace_model.specs.World.{class_of, x_of, y_of}
use Rattle.brace_cuts.specs.declared.space.Cuts.{Cuts}
use Rattle.brace_cuts.specs.Space.{area_of, owner_of}
use Rattle.brace_invert.specs.Held.{is_near}

-- a part owns an agent of a class
abbrev pub owns_at : Cuts → ℕ → Option Class → Agent → Bool
owns_at cuts p None a = false
owns_at cuts p (Some c) a = owner_of cuts (x_of c a) (y_of c a) == p

-- a part owns an agent under some cuts
abbrev pub owns : Program → Cuts → ℕ → Agent → Bool
owns program cuts p a = owns_at cuts p (class_of program a) a

-- the agents that a part owns
abbrev pub owned : Program → Cuts → ℕ → List Agent → List Agent
owned program cuts p agents = filter (owns program cuts p) agents

-- the agents that stand within a range of a part's area
abbrev pub held : Program → Cuts → ℤ → ℕ → List Agent → List Agent
held program cuts range p agents = filter (is_near program (area_of cuts p) range) agents
