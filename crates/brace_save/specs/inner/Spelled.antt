-- The line of one agent.
use Rattle.std.specs.Prelude.{◌≡◌, ℕ, List, IsTrue}
use Rattle.std.specs.List.{list_all}
use Rattle.brace_model.specs.declared.program.Program.{Program}
use Rattle.brace_model.specs.declared.world.Agent.{Agent}
use Rattle.brace_model.specs.Lawful.{is_lawful_agent}
use Rattle.brace_model.specs.Published.{agent_text}
use Rattle.brace_save.specs.Texts.{value_fits}

-- the line is that of an agent that fits the program
pub record IsAgentLine (program : Program) (a : Agent) (line : List ℕ) : Type 0 where
  pub lawful : IsTrue (is_lawful_agent program a)
  pub values_fit : IsTrue (list_all value_fits a.states)
  pub same : line ≡ agent_text program a
