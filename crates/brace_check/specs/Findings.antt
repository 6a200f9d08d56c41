-- Which faults are found at a place of a script, by what is in scope there. What stands for nothing
-- has no type; no script that passes the checks of names has such a name.
use Rattle.std.specs.Prelude.{ℕ, ℤ, pos, ◌*ℤ◌, nat_le, Bool, not, ◌||◌, ◌==◌, List, [], ◌∷◌, ◌++◌, Option, Some, None, option_map, Result, Ok, Err, if◌then◌else◌}
use Rattle.brace_model.specs.declared.program.Ty.{Ty}
use Rattle.brace_model.specs.declared.program.Comb.{Comb}
use Rattle.brace_model.specs.declared.program.Comb.TheVariants as comb
use Rattle.brace_model.specs.Typing.{same_type}
use Rattle.brace_model.specs.Lawful.{is_distance, combines}
use Rattle.brace_syntax.specs.declared.tree.Digits.{Digits}
use Rattle.brace_syntax.specs.declared.tree.Digits.TheVariants as d
use Rattle.brace_syntax.specs.declared.tree.Number.{Number}
use Rattle.brace_names.specs.declared.declared.Field.{Field}
use Rattle.brace_names.specs.declared.declared.Field.TheVariants as field
use Rattle.brace_names.specs.declared.scope.Named.{Named}
use Rattle.brace_names.specs.declared.scope.Named.TheVariants as named
use Rattle.brace_names.specs.declared.scope.LoopField.{LoopField}
use Rattle.brace_names.specs.Scopes.{Scope}
use Rattle.brace_check.specs.declared.fault.CheckFault.{CheckFault}
use Rattle.brace_check.specs.declared.fault.CheckFault.TheVariants.{OtherAgentInUpdate, ReadsEffectInQuery, AssignsState, AssignsEffect, PrivateOfOtherClass, NestedTooDeep, BadRange, WrongCombinator, WrongType}
use Rattle.brace_check.specs.Types.{is_shared}

-- a fault, where a test holds
abbrev pub fault_if : Bool → CheckFault → List CheckFault
fault_if test f = if test then f ∷ [] else []

-- a name that stands for this is read at a place: in a query no effect is
abbrev pub reads : Scope → ℕ → Option Named → List CheckFault
reads scope at (Some (named.Field (field.Effect n t shared c))) =
    fault_if scope.in_query (ReadsEffectInQuery at)
reads scope at _ = []

-- a field of the class of a loop variable is named at a place: of another class only what is public
-- may be
abbrev pub crosses : Scope → ℕ → Option LoopField → List CheckFault
crosses scope at None = []
crosses scope at (Some x) =
    fault_if (not (is_shared x.field || x.class == scope.home.number)) (PrivateOfOtherClass at)

-- `q.n` in an expression: in a query alone
abbrev pub reads_of_loop : Scope → ℕ → Option LoopField → List CheckFault
reads_of_loop scope at x =
    if scope.in_query
    then reads scope at (option_map (λ x. named.Field x.field) x) ++ crosses scope at x
    else OtherAgentInUpdate at ∷ []

-- a value is said to a field that stands at a place: not to a state, and not to nothing
abbrev pub assigns : ℕ → Option Field → List CheckFault
assigns at None = WrongType at ∷ []
assigns at (Some (field.State n t shared)) = AssignsState at ∷ []
assigns at (Some (field.Effect n t shared c)) = []

-- a child gets a value for a field at a place: not for an effect, and not for nothing
abbrev pub gives : ℕ → Option Field → List CheckFault
gives at None = WrongType at ∷ []
gives at (Some (field.State n t shared)) = []
gives at (Some (field.Effect n t shared c)) = AssignsEffect at ∷ []

-- a loop begins at a place: no more than two stand in each other
abbrev pub nests : Scope → ℕ → List CheckFault
nests scope at = fault_if (nat_le 2 scope.loops) (NestedTooDeep at)

-- a loop is over the class of a number, which stands at a place
abbrev pub loops_over : ℕ → Option ℕ → List CheckFault
loops_over at None = WrongType at ∷ []
loops_over at (Some class) = []

-- the type that a value said to an effect is to have: that of the effect; to `count` any type is
-- said
abbrev pub said_type : Comb → Ty → Option Ty
said_type comb.Count t = None
said_type _ t = Some t

-- the type that a value said to a field is to have, where one is asked for
abbrev pub wanted : Option Field → Option Ty
wanted (Some (field.Effect n t shared c)) = said_type c t
wanted _ = None

-- the type that a value given to a field is to have, where one is asked for
abbrev pub given_type : Option Field → Option Ty
given_type (Some (field.State n t shared)) = Some t
given_type _ = None

-- a value at a place is of the type that is asked for, where one is; a fault within it stands
abbrev pub misfits : Option Ty → ℕ → Result Ty ℕ → List CheckFault
misfits want at (Err place) = WrongType place ∷ []
misfits None at (Ok t) = []
misfits (Some want) at (Ok t) = fault_if (not (same_type want t)) (WrongType at)

-- the millionths of a number; a whole one counts units
abbrev pub millionths : Digits → ℤ
millionths (d.Int n) = n *ℤ pos 1000000
millionths (d.Fixed n) = n

-- a range of a class: from 0 to a million
abbrev pub ranges : Number → List CheckFault
ranges number = fault_if (not (is_distance (millionths number.digits))) (BadRange number.at)

-- an effect of a type whose name stands at a place
abbrev pub joins : Comb → Ty → ℕ → List CheckFault
joins comb t at = fault_if (not (combines comb t)) (WrongCombinator at)
