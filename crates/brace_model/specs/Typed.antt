-- Scopes whose values are of the types that are in scope.
use Rattle.std.specs.Prelude.{◌≡◌, ℕ, Some}
use Rattle.brace_model.specs.declared.program.Ty.{Ty}
use Rattle.brace_model.specs.declared.program.Who.{Who}
use Rattle.brace_model.specs.World.{value_at}
use Rattle.brace_model.specs.Value.{Scope, agent_of}
use Rattle.brace_model.specs.Typing.{Names, state_type, constant_type, type_of_value}

-- each state and each constant that may be named has a value of its type
pub record Fits (names : Names) (scope : Scope) : Type 0 where
  pub states : (who : Who) (i : ℕ) (t : Ty) → state_type names who i ≡ Some t
      → type_of_value (value_at (agent_of scope who).states i) ≡ t
  pub constants : (n : ℕ) (t : Ty) → constant_type names.known n ≡ Some t
      → type_of_value (value_at scope.locals n) ≡ t
