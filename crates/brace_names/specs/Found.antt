-- What is found in a script: each part in the scope at its place, an operation behind its operands.
use Rattle.std.specs.Prelude.{ℕ, true, false, Bool, List, [], ◌++◌, map, filter, flat_map, Option, Some, None, slice_get, option_map, if◌then◌else◌}
use Rattle.brace_model.specs.Typing.{unary_faults, binary_faults}
use Rattle.brace_syntax.specs.declared.tree.Ident.{Ident}
use Rattle.brace_syntax.specs.declared.tree.ExprTree.{ExprTree}
use Rattle.brace_syntax.specs.declared.tree.ExprTree.TheOpen.{ExprTree-F, Lit, True, False, Name, OfThis, OfLoop, Unary, Binary, Choice, Rand}
use Rattle.brace_syntax.specs.declared.tree.ExprTree.TheFolds.{fold-ExprTree}
use Rattle.brace_syntax.specs.declared.tree.StmtTree.{StmtTree}
use Rattle.brace_syntax.specs.declared.tree.GiftTree.{GiftTree}
use Rattle.brace_syntax.specs.declared.tree.MemberTree.{MemberTree}
use Rattle.brace_syntax.specs.declared.tree.MemberTree.TheVariants as m
use Rattle.brace_syntax.specs.declared.tree.ClassTree.{ClassTree}
use Rattle.brace_syntax.specs.declared.tree.Tree.{Tree}
use Rattle.brace_names.specs.declared.fault.NameFault.TheVariants.{DuplicateClass, DuplicateName, NoPosition, TooMany}
use Rattle.brace_names.specs.declared.fault.Which.{Which}
use Rattle.brace_names.specs.declared.fault.Which.TheVariants.{Classes, Fields}
use Rattle.brace_names.specs.declared.declared.Field.{Field}
use Rattle.brace_names.specs.declared.declared.Field.TheVariants as field
use Rattle.brace_names.specs.declared.finding.Finding.{Finding}
use Rattle.brace_names.specs.Kinds.{unary_named, binary_named}
use Rattle.brace_names.specs.Tables.{look, repeated}
use Rattle.brace_names.specs.Classes.{known, title, fields, has_position}
use Rattle.brace_names.specs.Scopes.{Home, Scope, outermost, read, read_own}
use Rattle.brace_names.specs.Walk.{Part, block, Sought, part_of, in_classes}
use Rattle.brace_names.specs.Findings.{fault, faults_at, site, site_if, reads, reads_of_loop, assigns, assigns_of_loop, declares, typed, loops_over}

-- what is found in an expression of each kind, by the scope
abbrev pub expression_step : ExprTree-F (Scope → List Finding) → Scope → List Finding
expression_step (Lit number) scope = []
expression_step (True at) scope = []
expression_step (False at) scope = []
expression_step (Name name) scope = reads scope name.at name (read scope name.text)
expression_step (OfThis name at) scope = reads scope at name (read_own scope name.text)
expression_step (OfLoop variable name) scope = reads_of_loop scope variable name
expression_step (Unary op x at) scope = x scope ++ site_if (unary_faults (unary_named op)) at
expression_step (Binary op x y at) scope =
    x scope ++ y scope ++ site_if (binary_faults (binary_named op)) at
expression_step (Choice c x y at) scope = c scope ++ x scope ++ y scope
expression_step (Rand at) scope = site at

-- what is found in an expression
abbrev pub expression : ExprTree → Scope → List Finding
expression = fold-ExprTree (Scope → List Finding) expression_step

-- what is looked for in statements
abbrev pub sought : Sought Finding
sought = record {
  constant = λ type name x scope. typed type ++ declares scope name ++ expression x scope;
  condition = expression;
  head = λ class variable other at scope.
      loops_over scope class other ++ declares scope variable;
  assigned = λ at name x scope. assigns scope at name ++ expression x scope;
  assigned_of_loop = λ variable name x scope.
      assigns_of_loop scope variable name ++ expression x scope;
}

-- what is found in a statement
abbrev pub part : StmtTree → Part (List Finding)
part = part_of sought

-- the rule of a state, where it has one
abbrev pub rule : Option ExprTree → Scope → List Finding
rule None scope = []
rule (Some x) scope = expression x scope

-- a gift
abbrev pub gift : Scope → GiftTree → List Finding
gift scope g = assigns scope g.state.at g.state ++ expression g.value scope

-- the name stands for a state
abbrev pub is_state : Option Field → Bool
is_state (Some (field.State n t shared)) = true
is_state _ = false

-- the states that are given, as they are written
abbrev pub states_given : Scope → List GiftTree → List Ident
states_given scope gifts =
    filter (λ name. is_state (look scope.home.own name.text)) (map (λ g. g.state) gifts)

-- a `spawn` behind its condition
abbrev pub gifts_found : Scope → List GiftTree → ℕ → List Finding
gifts_found scope gifts at =
    flat_map (gift scope) gifts
    ++ faults_at DuplicateName (repeated (states_given scope gifts))
    ++ site at

-- what is found in a member of a class
abbrev pub member : Home → MemberTree → List Finding
member home (m.Visible range at) = []
member home (m.Reach range at) = []
member home (m.State shared type name x at) = typed type ++ rule x (outermost home false)
member home (m.Effect shared type name c at) = typed type
member home (m.Run statements at) = block (map part statements) (outermost home true)
member home (m.Die condition at) = expression condition (outermost home false)
member home (m.Spawn condition gifts at) =
    expression condition (outermost home false) ++ gifts_found (outermost home false) gifts at

-- the first name past a limit
abbrev pub too_many : Which → Option Ident → List Finding
too_many which None = []
too_many which (Some name) = fault (TooMany which name.at)

-- the class has a position
abbrev pub position : ClassTree → List Finding
position class = if has_position class then [] else fault (NoPosition class.name.at)

-- what is found in what a class declares; at most 64 fields are allowed
abbrev pub declarations : ClassTree → List Finding
declarations class =
    faults_at DuplicateName (repeated (map title class.members))
    ++ too_many Fields (option_map (λ one. one.0) (slice_get (fields class) 64))
    ++ position class

-- what is found in the names of the classes, of which at most 16 are allowed
abbrev pub class_names : List Ident → List Finding
class_names names =
    faults_at DuplicateClass (repeated names) ++ too_many Classes (slice_get names 16)

-- what is found in a script
abbrev pub found : Tree → List Finding
found tree =
    class_names (map (λ class. class.name) tree.classes)
    ++ flat_map declarations tree.classes
    ++ in_classes member (known tree.classes) 0 tree.classes
