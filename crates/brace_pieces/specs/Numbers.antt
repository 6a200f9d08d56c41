-- That all numbers of a setting have 64 bits, as those of each setting of the program have.
use Rattle.std.specs.Prelude.{Bool, true, ◌&&◌, IsTrue, Option, Some, None}
use Rattle.std.specs.List.{list_all}
use Rattle.brace_num.specs.Exact.{fits}
use Rattle.brace_model.specs.declared.program.Class.{Class}
use Rattle.brace_model.specs.declared.program.Spawn.{Spawn}
use Rattle.brace_model.specs.declared.program.Expr.{Expr}
use Rattle.brace_model.specs.declared.program.Expr.TheOpen.{Expr-F, Lit, Field, Total, Local, Unary, Binary, Choice, Rand}
use Rattle.brace_model.specs.declared.program.Expr.TheFolds.{fold-Expr}
use Rattle.brace_model.specs.declared.world.Agent.{Agent}
use Rattle.brace_model.specs.World.{number}
use Rattle.brace_pieces.specs.declared.setting.Setting.{Setting}

-- the numbers that are written in one operation, whose operands were looked at
abbrev pub step_fits : Expr-F Bool → Bool
step_fits (Lit v) = fits (number v)
step_fits (Field who i) = true
step_fits (Total effect type site) = true
step_fits (Local n) = true
step_fits (Unary op site a) = a
step_fits (Binary op site a b) = a && b
step_fits (Choice c a b) = c && (a && b)
step_fits (Rand site) = true

-- the numbers that are written in an expression fit 64 bits
abbrev pub expression_fits : Expr → Bool
expression_fits = fold-Expr Bool step_fits

-- those that are written in a rule
abbrev pub rule_fits : Option Expr → Bool
rule_fits None = true
rule_fits (Some e) = expression_fits e

-- and those in the gifts of a `spawn`
abbrev pub gifts_fit : Option Spawn → Bool
gifts_fit None = true
gifts_fit (Some spawn) = list_all (λ g. expression_fits g.value) spawn.gifts

-- the numbers that a class gives to its states fit
abbrev pub class_fits : Class → Bool
class_fits class = list_all (λ state. rule_fits state.rule) class.states && gifts_fit class.spawn

-- the values of an agent fit
abbrev pub agent_fits : Agent → Bool
agent_fits a = list_all (λ v. fits (number v)) a.states

-- the numbers of the rules and of the first world fit
pub record NumbersFit (s : Setting) : Type 0 where
  pub rules_fit : IsTrue (list_all class_fits s.job.program.classes)
  pub start_fits : IsTrue (list_all agent_fits s.job.start.agents)
