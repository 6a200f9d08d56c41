-- Agents by the types and the words of their states.
use Rattle.std.specs.Prelude.{ℕ, ℤ, List, [], ◌∷◌}
use Rattle.brace_model.specs.declared.program.Ty.{Ty}
use Rattle.brace_model.specs.declared.program.Value.{Value}
use Rattle.brace_model.specs.declared.world.Agent.{Agent}
use Rattle.brace_model.specs.Value.{typed}

-- words as values of types, as far as there are both
abbrev pub values_of : List Ty → List ℤ → List Value
values_of [] words = []
values_of (t ∷ types) [] = []
values_of (t ∷ types) (w ∷ words) = typed t w ∷ values_of types words

-- the agent of a class and an id, and of words of types
abbrev pub agent_with : ℕ → ℕ → List Ty → List ℤ → Agent
agent_with class id types words =
    record { class = class; id = id; states = values_of types words }
