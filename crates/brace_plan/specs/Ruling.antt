-- The compiled rules of a class, and what they come to.
use Rattle.std.specs.Prelude.{◌≡◌, List, [], map, zip, fold, Option, Some, None, option_map, Ok, Err}
use Rattle.std.specs.List.{AllZip}
use Rattle.brace_model.specs.declared.fault.Stop.{Stop}
use Rattle.brace_model.specs.declared.program.Value.{Value}
use Rattle.brace_model.specs.declared.program.Expr.{Expr}
use Rattle.brace_model.specs.declared.program.Gift.{Gift}
use Rattle.brace_model.specs.declared.program.Spawn.{Spawn}
use Rattle.brace_model.specs.declared.program.Class.{Class}
use Rattle.brace_model.specs.declared.program.Program.{Program}
use Rattle.brace_model.specs.Value.{Scope, Worth, value}
use Rattle.brace_model.specs.Typing.{Names}
use Rattle.brace_model.specs.Typed.{Fits}
use Rattle.brace_model.specs.Lawful.{rule_scope}
use Rattle.brace_model.specs.Next.{ruled, with_stop}
use Rattle.brace_code.specs.declared.code.Code.{Code}
use Rattle.brace_code.specs.Codes.{gives}
use Rattle.brace_plan.specs.declared.rules.Rules.{Rules}
use Rattle.brace_plan.specs.Planning.{OneEach}

-- what a compiled rule comes to; a state without a rule keeps its value
abbrev pub ruled_by : Scope → Option Code → Value → Worth
ruled_by scope None old = Ok old
ruled_by scope (Some rule) old = gives rule scope

-- what compiled rules come to over the values of some states
abbrev pub rules_by : Scope → List (Option Code) → List Value → List Worth
rules_by scope rules values = map (λ p. ruled_by scope p.0 p.1) (zip rules values)

-- what compiled gifts come to
abbrev pub gifts_by : Scope → List Code → List Worth
gifts_by scope gifts = map (λ gift. gives gift scope) gifts

-- the condition and the gifts of a `spawn`, where there is one
abbrev pub condition_of : Option Spawn → Option Expr
condition_of spawn = option_map (λ s. s.when) spawn

abbrev pub gifts_of : Option Spawn → List Gift
gifts_of None = []
gifts_of (Some spawn) = spawn.gifts

-- in each scope whose values are of the types in scope, code gives the value of an expression, and
-- a compiled rule comes to what the rule comes to
abbrev pub IsCodeOf : Names → Expr → Code → Type 0
IsCodeOf names e code = (scope : Scope) → Fits names scope → gives code scope ≡ value e scope

abbrev pub IsRuleOf : Names → Option Expr → Option Code → Type 0
IsRuleOf names rule code =
    (scope : Scope) → Fits names scope → (old : Value)
    → ruled_by scope code old ≡ ruled scope rule old

-- compiled rules are those of a class: of each state, of `die` and of `spawn`
pub record AreRulesOf (names : Names) (class : Class) (rules : Rules) : Type 0 where
  pub states : AllZip (λ s code. IsRuleOf names s.rule code) class.states rules.states
  pub die : IsRuleOf names class.die rules.die
  pub spawn : IsRuleOf names (condition_of class.spawn) rules.spawn
  pub gifts : AllZip (λ g code. IsCodeOf names g.value code) (gifts_of class.spawn) rules.gifts

-- compiled rules, of one class after another
abbrev pub AreAllRulesOf : Program → List Rules → Type 0
AreAllRulesOf program =
    OneEach program (λ number class rules. AreRulesOf (rule_scope program number) class rules)

-- the stop of the least site after one outcome more, and after some
abbrev pub stop_after : Option Stop → Worth → Option Stop
stop_after met (Ok v) = met
stop_after met (Err stop) = Some (with_stop met stop)

abbrev pub stops_after : Option Stop → List Worth → Option Stop
stops_after = fold stop_after
