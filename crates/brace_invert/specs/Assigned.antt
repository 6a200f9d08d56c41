-- Faults at assignments: to whom the value would have been said.
use Rattle.std.specs.Prelude.{ℕ, ◌==◌, List, [], ◌∷◌, ◌++◌, flat_map, if◌then◌else◌, Option, Some, Bool, ◌≡◌}
use Rattle.std.specs.List.{Contains, list_any}
use Rattle.brace_model.specs.declared.program.Who.{Who}
use Rattle.brace_model.specs.declared.program.Who.TheVariants.{This, Outer, Inner}
use Rattle.brace_model.specs.declared.program.Stmt.{Stmt}
use Rattle.brace_model.specs.declared.program.Stmt.TheOpen.{Stmt-F, Const, If, Foreach, Assign}
use Rattle.brace_model.specs.declared.program.Stmt.TheFolds.{fold-Stmt}
use Rattle.brace_model.specs.declared.program.Class.{Class}
use Rattle.brace_model.specs.declared.program.Program.{Program}
use Rattle.brace_model.specs.declared.fault.Fault.{Fault}
use Rattle.brace_model.specs.declared.world.Agent.{Agent}
use Rattle.brace_model.specs.World.{class_of}
use Rattle.brace_model.specs.Sites.{sites_of}

-- a site is one of these
abbrev pub is_one_of : List ℕ → ℕ → Bool
is_one_of sites site = list_any (λ s. s == site) sites

-- the targets of one statement's assignments in whose values a site stands
abbrev pub targets_at_step : ℕ → Stmt-F (List Who) → List Who
targets_at_step site (Const n e) = []
targets_at_step site (If c a b) = flat_map (λ x. x) a ++ flat_map (λ x. x) b
targets_at_step site (Foreach class body at) = flat_map (λ x. x) body
targets_at_step site (Assign who effect e at) =
    if is_one_of (sites_of e) site then who ∷ [] else []

-- the targets of the assignments of a statement, and of its blocks, in whose values a site stands
abbrev pub targets_at : ℕ → Stmt → List Who
targets_at site = fold-Stmt (List Who) (targets_at_step site)

-- the id of the agent that a name stood for where a fault was met
abbrev pub id_in : Fault → Who → Option ℕ
id_in g This = Some g.agent
id_in g Outer = g.outer
id_in g Inner = g.inner

-- a query's fault is at an assignment to the agent of this id: an agent of the world met it, its
-- site stands in a value that the query of the agent's class says, and there the target had that id
pub record IsAtAssignmentTo (program : Program) (world : List Agent) (g : Fault) (id : ℕ)
    : Type 0 where
  pub agent : Agent
  pub is_in_world : Contains world agent
  pub met_it : agent.id ≡ g.agent
  pub class : Class
  pub has_class : class_of program agent ≡ Some class
  pub target : Who
  pub stands_there : Contains (flat_map (targets_at g.site) class.query) target
  pub had_id : id_in g target ≡ Some id
