-- The program that a script stands for.
use Rattle.std.specs.Prelude.{ℕ, ◌+◌, ℤ, pos, true, false, List, [], ◌∷◌, ◌++◌, map, flat_map, codes, Option, Some, None, unwrap_or, slice_get}
use Rattle.std.specs.List.{position_or_len}
use Rattle.std.specs.Str.{bytes_eq}
use Rattle.brace_model.specs.declared.program.Expr.{Expr}
use Rattle.brace_model.specs.declared.program.State.{State}
use Rattle.brace_model.specs.declared.program.Effect.{Effect}
use Rattle.brace_model.specs.declared.program.Gift.{Gift}
use Rattle.brace_model.specs.declared.program.Spawn.{Spawn}
use Rattle.brace_model.specs.declared.program.Class.{Class}
use Rattle.brace_model.specs.declared.program.Program.{Program}
use Rattle.brace_syntax.specs.declared.tree.ExprTree.{ExprTree}
use Rattle.brace_syntax.specs.declared.tree.GiftTree.{GiftTree}
use Rattle.brace_syntax.specs.declared.tree.MemberTree.{MemberTree}
use Rattle.brace_syntax.specs.declared.tree.MemberTree.TheVariants as m
use Rattle.brace_syntax.specs.declared.tree.ClassTree.{ClassTree}
use Rattle.brace_names.specs.declared.resolved.Resolved.{Resolved}
use Rattle.brace_names.specs.Kinds.{type_named, comb_named}
use Rattle.brace_names.specs.Tables.{look}
use Rattle.brace_names.specs.Classes.{Known, known}
use Rattle.brace_names.specs.Scopes.{Home, home_of, Scope, outermost}
use Rattle.brace_check.specs.declared.share.Share.{Share}
use Rattle.brace_check.specs.declared.program.Outline.{Outline}
use Rattle.brace_check.specs.Findings.{millionths}
use Rattle.brace_check.specs.Meanings.{Meaning, plain, site, made, followed, number_of, expression, block, part}

-- the rule of a state, where it has one
abbrev pub rule : Option ExprTree → Scope → Meaning (Option Expr)
rule None scope = plain None
rule (Some x) scope = made (λ e. Some e) (expression x scope)

-- the gifts of a `spawn`, in turn
abbrev pub gifts_in : List GiftTree → Scope → Meaning (List Gift)
gifts_in [] scope = plain []
gifts_in (g ∷ gifts) scope =
    followed
    (λ e rest. record { state = number_of (look scope.home.own g.state.text); value = e } ∷ rest)
    (expression g.value scope) (gifts_in gifts scope)

-- a `spawn` at a place, whose own site comes after all those in it
abbrev pub spawn_of : ExprTree → List GiftTree → ℕ → Scope → Meaning Spawn
spawn_of condition gifts at scope =
    followed (λ (inner : Expr × List Gift) n. record { when = inner.0; gifts = inner.1; site = n })
    (followed (λ e given. (e, given)) (expression condition scope) (gifts_in gifts scope))
    (site at)

-- a member that has nothing of it
abbrev pub no_share : Share
no_share = record { states = []; queries = []; die = []; spawn = [] }

-- what a member of a class has
abbrev pub share : Home → MemberTree → Meaning Share
share home (m.State shared type name x at) =
    made
    (λ r. record no_share {
      states = record { name = name.text; ty = type_named type; shared = shared; rule = r } ∷ [];
    })
    (rule x (outermost home false))
share home (m.Run statements at) =
    made (λ query. record no_share { queries = query ∷ [] })
    (block (map part statements) (outermost home true))
share home (m.Die condition at) =
    made (λ e. record no_share { die = e ∷ [] })
    (expression condition (outermost home false))
share home (m.Spawn condition gifts at) =
    made (λ s. record no_share { spawn = s ∷ [] })
    (spawn_of condition gifts at (outermost home false))
share home _ = plain no_share

-- two shares, one behind the other
abbrev pub shared_by : Share → Share → Share
shared_by a b = record {
  states = a.states ++ b.states;
  queries = a.queries ++ b.queries;
  die = a.die ++ b.die;
  spawn = a.spawn ++ b.spawn;
}

-- what members have together, each behind those before it
abbrev pub shares : Home → List MemberTree → Meaning Share
shares home [] = plain no_share
shares home (member ∷ members) =
    followed shared_by (share home member) (shares home members)

-- the effect that a member declares, if it does
abbrev pub effect_of : MemberTree → List Effect
effect_of (m.Effect shared type name c at) =
    record { name = name.text; ty = type_named type; shared = shared; comb = comb_named c } ∷ []
effect_of _ = []

-- the visible range that a member gives, if it does
abbrev pub visible_of : MemberTree → List ℤ
visible_of (m.Visible range at) = millionths range.digits ∷ []
visible_of _ = []

-- the reach that a member gives, if it does
abbrev pub reach_of : MemberTree → List ℤ
reach_of (m.Reach range at) = millionths range.digits ∷ []
reach_of _ = []

-- the first of these; 0 where there is none
abbrev pub first_or_0 : List ℤ → ℤ
first_or_0 ranges = unwrap_or (slice_get ranges 0) (pos 0)

-- the place of the state of a name
abbrev pub place_of : List ℕ → List State → ℕ
place_of name states = position_or_len (λ s. bytes_eq s.name name) states

-- what a class has that is not numbered over the whole script
abbrev pub outline_of : ClassTree → Outline
outline_of class = record {
  name = class.name.text;
  visible = first_or_0 (flat_map visible_of class.members);
  reach = first_or_0 (flat_map reach_of class.members);
  effects = flat_map effect_of class.members;
}

-- a class of this outline, whose members have this together
abbrev pub filled : Outline → Share → Class
filled outline all = record {
  name = outline.name;
  visible = outline.visible;
  reach = outline.reach;
  x = place_of (codes "x") all.states;
  y = place_of (codes "y") all.states;
  states = all.states;
  effects = outline.effects;
  query = unwrap_or (slice_get all.queries 0) [];
  die = slice_get all.die 0;
  spawn = slice_get all.spawn 0;
}

-- a class whose members have this together
abbrev pub class_with : ClassTree → Share → Class
class_with class all = filled (outline_of class) all

-- a class
abbrev pub class_of : Home → ClassTree → Meaning Class
class_of home class = made (class_with class) (shares home class.members)

-- classes, numbered from a number on
abbrev pub classes_from : Known → ℕ → List ClassTree → Meaning (List Class)
classes_from all number [] = plain []
classes_from all number (class ∷ classes) =
    followed (λ c rest. c ∷ rest) (class_of (home_of all number class) class)
    (classes_from all (number + 1) classes)

-- a program, and the places of its sites
abbrev pub program_with : Meaning (List Class) → Program
program_with all = record { classes = (all []).0; sites = (all []).1 }

-- the program of a script whose names are resolved
abbrev pub program_of : Resolved → Program
program_of r = program_with (classes_from (known r.tree.classes) 0 r.tree.classes)
