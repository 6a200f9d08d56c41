-- What compiled rules make of an agent.
use Rattle.std.specs.Prelude.{◌≡◌, ℕ, ℤ, pos, ◌≤ℤ◌, List, [], ◌∷◌, ◌++◌, Bool, true, if◌then◌else◌, Option, Some, None, Result}
use Rattle.brace_model.specs.declared.program.Value.{Value}
use Rattle.brace_model.specs.declared.program.Class.{Class}
use Rattle.brace_model.specs.declared.program.Program.{Program}
use Rattle.brace_model.specs.declared.fault.Fault.{Fault}
use Rattle.brace_model.specs.declared.world.Agent.{Agent}
use Rattle.brace_model.specs.World.{class_of, no_value}
use Rattle.brace_model.specs.Value.{Scope, Worth}
use Rattle.brace_model.specs.Query.{opening_scope}
use Rattle.brace_model.specs.Lawful.{is_lawful_agent}
use Rattle.brace_model.specs.Next.{Next, holds, changed, with_gifts, values_of, first_stop, next_in, unless_stopped}
use Rattle.brace_plan.specs.declared.rules.Rules.{Rules}
use Rattle.brace_plan.specs.Ruling.{ruled_by, rules_by, gifts_by, gifts_of}

-- a list, and behind it one element that may be there
abbrev pub with_one : {A : Type 0} → List A → Option A → List A
with_one xs None = xs
with_one xs (Some x) = xs ++ x ∷ []

-- the conditions of `die` and `spawn`; one that is not written never holds
abbrev pub dies_by : Scope → Rules → Worth
dies_by scope rules = ruled_by scope rules.die no_value

abbrev pub spawns_by : Scope → Rules → Worth
spawns_by scope rules = ruled_by scope rules.spawn no_value

-- what the gifts come to, which are run only where a child is born
abbrev pub given_by : Scope → Rules → List Worth
given_by scope rules = if holds (spawns_by scope rules) then gifts_by scope rules.gifts else []

-- all that an update runs
abbrev pub update_by : Scope → Rules → Agent → List Worth
update_by scope rules a =
    rules_by scope rules.states a.states
    ++ dies_by scope rules ∷ spawns_by scope rules ∷ given_by scope rules

-- an agent of a class with its new states, unless it dies
abbrev pub survivor : Bool → Class → Agent → List Value → Option Agent
survivor dies class a states = if dies then None else Some (changed class a states)

-- the child of an agent of a class, where it has one
abbrev pub child_by : Scope → Rules → Class → Agent → Option Agent
child_by scope rules class a =
    let given = values_of (gifts_by scope rules.gifts) in
    if holds (spawns_by scope rules)
    then Some (changed class a (with_gifts a.states (gifts_of class.spawn) given))
    else None

-- what an agent leaves, where nothing stops its update
abbrev pub leaves_by : Scope → Class → Rules → Agent → Next
leaves_by scope class rules a = record {
  agent =
      survivor (holds (dies_by scope rules)) class a
      (values_of (rules_by scope rules.states a.states));
  child = child_by scope rules class a;
}

-- what becomes of an agent in a scope by compiled rules
abbrev pub next_by : ℕ → Class → Rules → Agent → Scope → Result Next Fault
next_by tick class rules a scope =
    unless_stopped tick a (first_stop (update_by scope rules a)) (leaves_by scope class rules a)

-- a class, and compiled rules by which becomes of each lawful agent of the class of a number what
-- becomes of it by the program
pub record IsRuled (program : Program) (number : ℕ) (class : Class) (rules : Rules) : Type 0 where
  pub reach : pos 0 ≤ℤ class.reach
  pub same : (seed tick : ℕ) (totals : List ℤ) (a : Agent) → is_lawful_agent program a ≡ true
      → a.class ≡ number → next_in seed tick (class_of program a) totals a
      ≡ next_by tick class rules a (opening_scope seed tick [] totals a)
