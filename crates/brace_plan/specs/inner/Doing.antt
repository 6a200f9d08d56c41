-- When actions do what statements do. Only the crate's own functions cite this.
use Rattle.std.specs.Prelude.{◌≡◌, ℕ, nat_lt, List, [], ◌∷◌, map, flat_map, length, Bool, true, false, Option, None, Some, is_none}
use Rattle.std.specs.List.{list_all}
use Rattle.brace_model.specs.declared.program.Ty.{Ty}
use Rattle.brace_model.specs.declared.program.Who.{Who}
use Rattle.brace_model.specs.declared.program.Who.TheVariants.{Outer, Inner}
use Rattle.brace_model.specs.declared.program.Program.{Program}
use Rattle.brace_model.specs.declared.program.Stmt.{Stmt}
use Rattle.brace_model.specs.declared.world.Agent.{Agent}
use Rattle.brace_model.specs.Lawful.{is_lawful_agent}
use Rattle.brace_model.specs.Sites.{constant_numbers}
use Rattle.brace_model.specs.Value.{Scope}
use Rattle.brace_model.specs.Query.{Deed, block, statement}
use Rattle.brace_model.specs.Typing.{Names}
use Rattle.brace_model.specs.Typed.{Fits}
use Rattle.brace_code.specs.declared.names.Known.{Known}
use Rattle.brace_code.specs.Codes.{names_of}
use Rattle.brace_plan.specs.declared.action.Action.{Action}
use Rattle.brace_plan.specs.Acts.{act, acts}

-- what is known, with these constants in scope
abbrev pub names_with : Known → List (ℕ × Ty) → Names
names_with known constants = record (names_of known) { known = constants }

-- the variable of a loop, by the class of the outer loop's agent
abbrev pub variable_of : Option ℕ → Who
variable_of None = Outer
variable_of (Some class) = Inner

abbrev pub variable_in : Known → Who
variable_in known = variable_of known.outer

-- a scope over lawful agents of a program, whose values are of the types in scope, and which has an
-- outer loop's agent where one may be named
pub record Suits (program : Program) (world : List Agent) (names : Names) (scope : Scope)
    : Type 0 where
  pub classes : names.classes ≡ program.classes
  pub agents : list_all (is_lawful_agent program) world ≡ true
  pub fits : Fits names scope
  pub in_loop : is_none scope.outer ≡ is_none names.outer_class

-- there is room for the constants that statements declare
abbrev pub has_room : Scope → List Stmt → Bool
has_room scope statements =
    list_all (λ n. nat_lt n (length scope.locals)) (flat_map constant_numbers statements)

-- one deed is another, which leaves a scope that suits, with as much room
pub record Same (program : Program) (world : List Agent) (last : Names) (scope : Scope)
    (did does : Deed) : Type 0 where
  pub deed : did ≡ does
  pub suits : does.stopped ≡ false → Suits program world last does.scope
  pub room : length does.scope.locals ≡ length scope.locals

-- an action does what a statement does
pub record DoesOne (names last : Names) (s : Stmt) (action : Action) : Type 0 where
  pub each : (program : Program) (world : List Agent) (scope : Scope)
      → Suits program world names scope → has_room scope (s ∷ []) ≡ true
      → Same program world last scope (act program world action scope)
      (statement program world s scope)

-- actions do what statements do
pub record Does (names last : Names) (s : List Stmt) (actions : List Action) : Type 0 where
  pub each : (program : Program) (world : List Agent) (scope : Scope)
      → Suits program world names scope → has_room scope s ≡ true
      → Same program world last scope (acts program world actions scope)
      (block (map (statement program world) s) scope)

abbrev pub DoesAll : Names → List Stmt → List Action → Type 0
DoesAll names s actions = (last : Names) × Does names last s actions
