-- What inversion keeps of a tick: all that is said, where no query faults, and the first fault.
use Rattle.std.specs.Prelude.{ℕ, List, ◌++◌, ◌≡◌, ◌<◌, ◌⊎◌}
use Rattle.std.specs.List.{Contains}
use Rattle.brace_model.specs.declared.program.Program.{Program}
use Rattle.brace_model.specs.declared.fault.Fault.{Fault}
use Rattle.brace_model.specs.declared.world.Agent.{Agent}
use Rattle.brace_model.specs.Query.{Saying, said_in, query_faults}
use Rattle.brace_invert.specs.Split.{forward_program, inverse_program}

-- all that the forward and the inverse program say in a tick
abbrev pub said_by_both : Program → ℕ → ℕ → List Agent → List Saying
said_by_both program seed tick world =
    said_in (forward_program program) seed tick world
    ++ said_in (inverse_program program) seed tick world

-- all faults that the queries of the forward and of the inverse program meet in a tick
abbrev pub found_by_both : Program → ℕ → ℕ → List Agent → List Fault
found_by_both program seed tick world =
    query_faults (forward_program program) seed tick world
    ++ query_faults (inverse_program program) seed tick world

-- of two faults of one agent, tick and phase, the second stands at a greater site
pub record ComesAfter (f g : Fault) : Type 0 where
  pub tick : g.tick ≡ f.tick
  pub phase : g.phase ≡ f.phase
  pub agent : g.agent ≡ f.agent
  pub site : f.site < g.site

-- a fault is one of these, or comes after one of them
abbrev pub IsForeseen : List Fault → Fault → Type 0
IsForeseen faults g = Contains faults g ⊎ ((f : Fault) × Contains faults f × ComesAfter f g)
