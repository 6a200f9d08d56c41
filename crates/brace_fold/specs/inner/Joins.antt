-- Of what was said, what was said to each agent. Only the crate's own functions cite this.
use Rattle.std.specs.Prelude.{ℕ, zero, suc, ◌==◌, ◌&&◌, List, [], ◌++◌, filter, length}
use Rattle.brace_model.specs.declared.program.Program.{Program}
use Rattle.brace_model.specs.declared.world.Agent.{Agent}
use Rattle.brace_model.specs.World.{class_of}
use Rattle.brace_model.specs.Query.{Saying}
use Rattle.brace_eval.specs.Heard.{effects_in}

-- of some sayings those to an effect of an agent
abbrev pub to_effect : ℕ → ℕ → List Saying → List Saying
to_effect id effect said = filter (λ s. (s.target == id) && (s.field == effect)) said

-- of some sayings those to the first effects of an agent, so many
abbrev pub to_first : ℕ → List Saying → ℕ → List Saying
to_first id said zero = []
to_first id said (suc effect) = to_first id said effect ++ to_effect id effect said

-- of some sayings those to the effects of an agent's class
abbrev pub said_of : Program → List Saying → Agent → List Saying
said_of program said a = to_first a.id said (length (effects_in (class_of program a)))
