-- What becomes of an agent in a tick: the agent itself, unless it dies, and its child, where it has
-- one; or the fault of its update.
-- Rules and the conditions of `die` and `spawn` are evaluated over the agent's own states and
-- totals.
use Rattle.std.specs.Prelude.{ℕ, nat_lt, ℤ, List, [], ◌∷◌, ◌++◌, map, filter_map, zip, fold, slice_set, Bool, true, false, if◌then◌else◌, Option, Some, None, is_some, Result, Ok, Err, option_map}
use Rattle.std.specs.List.{list_any, reduce}
use Rattle.std.specs.Result.{result_ok, result_err}
use Rattle.brace_num.specs.Exact.{clamped}
use Rattle.brace_model.specs.declared.program.Value.{Value}
use Rattle.brace_model.specs.declared.program.Value.TheVariants.{Fixed, Flag}
use Rattle.brace_model.specs.declared.program.Gift.{Gift}
use Rattle.brace_model.specs.declared.program.Spawn.{Spawn}
use Rattle.brace_model.specs.declared.program.Class.{Class}
use Rattle.brace_model.specs.declared.program.Program.{Program}
use Rattle.brace_model.specs.declared.program.Expr.{Expr}
use Rattle.brace_model.specs.declared.fault.Stop.{Stop}
use Rattle.brace_model.specs.declared.fault.Fault.{Fault}
use Rattle.brace_model.specs.declared.fault.Phase.TheVariants.{Update}
use Rattle.brace_model.specs.declared.world.Agent.{Agent}
use Rattle.brace_model.specs.World.{value_at, number, class_of}
use Rattle.brace_model.specs.Value.{Scope, Worth, value}
use Rattle.brace_model.specs.Query.{opening_scope, said_in}
use Rattle.brace_model.specs.Total.{totals_from}

-- what an agent leaves to the next world: itself, unless it dies, and its child, where it has one.
-- A child bears its parent's id until it gets an id of its own
pub record Next : Type 0 where
  pub agent : Option Agent
  pub child : Option Agent

-- the value of a rule; a state without a rule keeps its value
abbrev pub ruled : Scope → Option Expr → Value → Worth
ruled scope None old = Ok old
ruled scope (Some rule) old = value rule scope

-- what the rules of a class come to over an agent's states
abbrev pub rules_in : Scope → Class → Agent → List Worth
rules_in scope class a = map (λ p. ruled scope p.0.rule p.1) (zip class.states a.states)

-- a condition; one that is not written never holds
abbrev pub condition_in : Scope → Option Expr → Worth
condition_in scope None = Ok (Flag false)
condition_in scope (Some e) = value e scope

-- a condition was evaluated, and is true
abbrev pub holds : Worth → Bool
holds (Ok (Flag true)) = true
holds _ = false

-- a class of the program has a `spawn`
abbrev pub has_births : Program → Bool
has_births program = list_any (λ class. is_some class.spawn) program.classes

-- the condition under which an agent has a child
abbrev pub spawns_in : Scope → Option Spawn → Worth
spawns_in scope spawn = condition_in scope (option_map (λ s. s.when) spawn)

-- what the gifts of a `spawn` come to; they are evaluated only where its condition holds
abbrev pub gifts_in : Scope → Option Spawn → List Worth
gifts_in scope None = []
gifts_in scope (Some spawn) =
    if holds (value spawn.when scope) then map (λ g. value g.value scope) spawn.gifts else []

-- all that the update of an agent evaluates
abbrev pub update_in : Scope → Class → Agent → List Worth
update_in scope class a =
    rules_in scope class a
    ++ condition_in scope class.die ∷ spawns_in scope class.spawn ∷ gifts_in scope class.spawn

-- the one of two stops that has the lesser site
abbrev pub earlier_stop : Stop → Stop → Stop
earlier_stop a b = if nat_lt b.site a.site then b else a

-- the stop of the lesser site: of one, and of one that was met before it, if any was
abbrev pub with_stop : Option Stop → Stop → Stop
with_stop None stop = stop
with_stop (Some met) stop = earlier_stop met stop

-- the stop at the least site: sites are numbered in text order, so it is the first in the text
abbrev pub first_stop : List Worth → Option Stop
first_stop outcomes = reduce earlier_stop (filter_map result_err outcomes)

-- the values of what did not stop
abbrev pub values_of : List Worth → List Value
values_of outcomes = filter_map result_ok outcomes

-- the new value of one coordinate, moved into reach of the old one
abbrev pub moved : ℤ → List Value → ℕ → List Value → List Value
moved reach old place new =
    let now = clamped (number (value_at old place)) (number (value_at new place)) reach in
    slice_set new place (Fixed now)

-- both coordinates moved into reach
abbrev pub within_reach : Class → List Value → List Value → List Value
within_reach class old new = moved class.reach old class.y (moved class.reach old class.x new)

-- the states of a parent, with gifts in the places of some
abbrev pub with_gifts : List Value → List Gift → List Value → List Value
with_gifts old gifts given = fold (λ states g. slice_set states g.0.state g.1) old (zip gifts given)

-- an agent with other states, moved into reach of its old place
abbrev pub changed : Class → Agent → List Value → Agent
changed class a states = record a { states = within_reach class a.states states }

-- the child of an agent, where it has one
abbrev pub child_in : Scope → Class → Agent → Option Spawn → Option Agent
child_in scope class a None = None
child_in scope class a (Some spawn) =
    let given = values_of (gifts_in scope (Some spawn)) in
    if holds (value spawn.when scope)
    then Some (changed class a (with_gifts a.states spawn.gifts given))
    else None

-- what an agent leaves, where nothing stops its update
abbrev pub left_by : Scope → Class → Agent → Next
left_by scope class a = record {
  agent =
      if holds (condition_in scope class.die)
      then None
      else Some (changed class a (values_of (rules_in scope class a)));
  child = child_in scope class a class.spawn;
}

-- the fault of an update at a site
abbrev pub update_fault : ℕ → Agent → Stop → Fault
update_fault tick a stop = record {
  tick = tick;
  phase = Update;
  agent = a.id;
  site = stop.site;
  outer = None;
  inner = None;
  kind = stop.kind;
}

-- what is left, or the fault in its place
abbrev pub unless_stopped : ℕ → Agent → Option Stop → Next → Result Next Fault
unless_stopped tick a None left = Ok left
unless_stopped tick a (Some stop) left = Err (update_fault tick a stop)

-- what becomes of an agent of a class in a scope
abbrev pub next_of : ℕ → Class → Agent → Scope → Result Next Fault
next_of tick class a scope =
    unless_stopped tick a (first_stop (update_in scope class a)) (left_by scope class a)

-- what becomes of an agent with its own totals; an agent without a class stays as it is
abbrev pub next_in : ℕ → ℕ → Option Class → List ℤ → Agent → Result Next Fault
next_in seed tick None totals a = Ok (record { agent = Some a; child = None })
next_in seed tick (Some class) totals a = next_of tick class a (opening_scope seed tick [] totals a)

-- the totals of an agent of a world in a tick
abbrev pub totals_in : Program → ℕ → ℕ → List Agent → Agent → Option Class → List ℤ
totals_in program seed tick world a None = []
totals_in program seed tick world a (Some class) =
    totals_from 0 a.id class.effects (said_in program seed tick world)

-- what becomes of an agent of a world
abbrev pub next : Program → ℕ → ℕ → List Agent → Agent → Result Next Fault
next program seed tick world a =
    let class = class_of program a in
    next_in seed tick class (totals_in program seed tick world a class) a
