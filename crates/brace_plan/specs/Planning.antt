-- Plans of a program: what their actions are to do.
use Rattle.std.specs.Prelude.{◌≡◌, ℕ, List, [], ◌∷◌, ◌++◌, map, flat_map, sum, true, None, Some, slice_get, length, replicate}
use Rattle.std.specs.List.{list_all}
use Rattle.brace_model.specs.declared.program.Who.TheVariants.{Outer}
use Rattle.brace_model.specs.declared.program.Class.{Class}
use Rattle.brace_model.specs.declared.program.Program.{Program}
use Rattle.brace_model.specs.declared.program.Stmt.{Stmt}
use Rattle.brace_model.specs.declared.world.Agent.{Agent}
use Rattle.brace_model.specs.Lawful.{LawfulProgram, is_lawful_agent}
use Rattle.brace_model.specs.World.{no_value}
use Rattle.brace_model.specs.Value.{Scope}
use Rattle.brace_model.specs.Query.{block, statement, constants, opening_scope, query_of}
use Rattle.brace_plan.specs.declared.action.Action.{Action}
use Rattle.brace_plan.specs.declared.action.Action.TheOpen.{Action-F, Const, If, Foreach, Assign}
use Rattle.brace_plan.specs.declared.action.Action.TheFolds.{fold-Action}
use Rattle.brace_plan.specs.declared.loops.Loop.{Loop}
use Rattle.brace_plan.specs.declared.plans.Planned.{Planned}
use Rattle.brace_plan.specs.Narrowing.{loops_of}
use Rattle.brace_plan.specs.Acts.{acts}

-- the loops of an action, in order, each with the number of its bounds
abbrev pub told_step : Action-F (List Loop) → List Loop
told_step (Const n code) = []
told_step (If code a b) = flat_map (λ loops. loops) a ++ flat_map (λ loops. loops) b
told_step (Foreach class bounds body at) =
    record { at = at; class = class; bounds = length bounds } ∷ flat_map (λ loops. loops) body
told_step (Assign who effect code) = []

abbrev pub told : Action → List Loop
told = fold-Action (List Loop) told_step

abbrev pub told_by : List Action → List Loop
told_by actions = flat_map told actions

-- a class is that of a number in a lawful program
pub record IsClassOf (program : Program) (number : ℕ) (c : Class) : Type 0 where
  pub lawful : LawfulProgram program
  pub class : slice_get program.classes number ≡ Some c

-- actions do what the query of a class does: for each agent of the class, over lawful agents; and
-- their loops are as many times narrowed as those of the query
pub record IsPlanOf (program : Program) (number : ℕ) (query : List Stmt) (planned : Planned)
    : Type 0 where
  pub constants : planned.constants ≡ sum (map constants query)
  pub told : told_by planned.actions ≡ loops_of program.classes Outer query
  pub same : (seed tick : ℕ) (world : List Agent) (a : Agent)
      → list_all (is_lawful_agent program) world ≡ true → is_lawful_agent program a ≡ true
      → a.class ≡ number
      → acts program world planned.actions (opening_scope seed tick query [] a)
      ≡ block (map (statement program world) query) (opening_scope seed tick query [] a)

-- one thing for each class of a program
pub record OneEach {A : Type 0} (program : Program) (Is : ℕ → Class → A → Type 0)
    (things : List A) : Type 0 where
  pub each : (number : ℕ) (class : Class) → slice_get program.classes number ≡ Some class
      → (thing : A) × (slice_get things number ≡ Some thing) × Is number class thing

-- one plan for the query of each class
abbrev pub ArePlansOf : Program → List Planned → Type 0
ArePlansOf program =
    OneEach program (λ number class planned. IsPlanOf program number class.query planned)

-- the scope in which a plan of so many constants begins
abbrev pub opening_of : ℕ → ℕ → ℕ → Agent → Scope
opening_of constants seed tick a = record {
  tick = tick;
  seed = seed;
  this = a;
  outer = None;
  inner = None;
  locals = replicate constants no_value;
  totals = [];
}

-- the actions of a plan do, for each lawful agent of the class, what its query does
pub record IsPlanned (program : Program) (number : ℕ) (actions : List Action) (constants : ℕ)
    : Type 0 where
  pub same : (seed tick : ℕ) (world : List Agent) (a : Agent)
      → list_all (is_lawful_agent program) world ≡ true → is_lawful_agent program a ≡ true
      → a.class ≡ number
      → acts program world actions (opening_of constants seed tick a)
      ≡ query_of program seed tick world a
