-- Which faults of the check passes are found in a script, in finishing order: each part in the
-- scope at its place.
use Rattle.std.specs.Prelude.{ℕ, true, false, List, [], ◌++◌, map, flat_map, Option, Some, None, option_map}
use Rattle.brace_model.specs.declared.program.Ty.{Ty}
use Rattle.brace_model.specs.declared.program.Ty.TheVariants as ty
use Rattle.brace_syntax.specs.declared.tree.ExprTree.{ExprTree}
use Rattle.brace_syntax.specs.declared.tree.ExprTree.TheOpen.{ExprTree-F, Lit, True, False, Name, OfThis, OfLoop, Unary, Binary, Choice, Rand}
use Rattle.brace_syntax.specs.declared.tree.ExprTree.TheFolds.{fold-ExprTree}
use Rattle.brace_syntax.specs.declared.tree.StmtTree.{StmtTree}
use Rattle.brace_syntax.specs.declared.tree.GiftTree.{GiftTree}
use Rattle.brace_syntax.specs.declared.tree.MemberTree.{MemberTree}
use Rattle.brace_syntax.specs.declared.tree.MemberTree.TheVariants as m
use Rattle.brace_syntax.specs.declared.tree.Tree.{Tree}
use Rattle.brace_names.specs.declared.declared.Field.{Field}
use Rattle.brace_names.specs.declared.scope.LoopField.{LoopField}
use Rattle.brace_names.specs.Kinds.{type_named, comb_named}
use Rattle.brace_names.specs.Tables.{look}
use Rattle.brace_names.specs.Classes.{known}
use Rattle.brace_names.specs.Scopes.{Home, Scope, outermost, class_number, read, read_own, of_loop}
use Rattle.brace_names.specs.Walk.{Part, block, Sought, part_of, in_classes}
use Rattle.brace_check.specs.declared.fault.CheckFault.{CheckFault}
use Rattle.brace_check.specs.Types.{type_of, place}
use Rattle.brace_check.specs.Findings.{reads, reads_of_loop, crosses, assigns, gives, nests, loops_over, wanted, given_type, misfits, ranges, joins}

-- what is found in an expression of each kind, but for types
abbrev pub expression_step : ExprTree-F (Scope → List CheckFault) → Scope → List CheckFault
expression_step (Lit number) scope = []
expression_step (True at) scope = []
expression_step (False at) scope = []
expression_step (Name name) scope = reads scope name.at (read scope name.text)
expression_step (OfThis name at) scope = reads scope at (read_own scope name.text)
expression_step (OfLoop variable name) scope =
    reads_of_loop scope variable.at (of_loop scope variable.text name.text)
expression_step (Unary op x at) scope = x scope
expression_step (Binary op x y at) scope = x scope ++ y scope
expression_step (Choice c x y at) scope = c scope ++ x scope ++ y scope
expression_step (Rand at) scope = []

-- what is found in an expression, but for types
abbrev pub expression : ExprTree → Scope → List CheckFault
expression = fold-ExprTree (Scope → List CheckFault) expression_step

-- what is found in a value of which a type may be asked
abbrev pub valued : Option Ty → ExprTree → Scope → List CheckFault
valued want x scope = expression x scope ++ misfits want (place x) (type_of x scope)

-- what is found in an assignment at a place to a field
abbrev pub says : ℕ → Option Field → ExprTree → Scope → List CheckFault
says at target x scope = assigns at target ++ valued (wanted target) x scope

-- what is found in an assignment at a place to a field of the agent of a loop
abbrev pub says_to_loop : ℕ → Option LoopField → ExprTree → Scope → List CheckFault
says_to_loop at target x scope =
    crosses scope at target ++ says at (option_map (λ x. x.field) target) x scope

-- what is looked for in statements
abbrev pub sought : Sought CheckFault
sought = record {
  constant = λ type name x. valued (Some (type_named type)) x;
  condition = valued (Some ty.Bool);
  head = λ class variable other at scope.
      nests scope at ++ loops_over class.at (class_number scope class.text);
  assigned = λ at name x scope. says at (look scope.home.own name.text) x scope;
  assigned_of_loop = λ variable name x scope.
      says_to_loop variable.at (of_loop scope variable.text name.text) x scope;
}

-- what is found in a statement
abbrev pub part : StmtTree → Part (List CheckFault)
part = part_of sought

-- what is found in the rule of a state of a type, where it has one
abbrev pub rule : Ty → Option ExprTree → Scope → List CheckFault
rule type None scope = []
rule type (Some x) scope = valued (Some type) x scope

-- what is found in a gift
abbrev pub gift : Scope → GiftTree → List CheckFault
gift scope g =
    gives g.state.at (look scope.home.own g.state.text)
    ++ valued (given_type (look scope.home.own g.state.text)) g.value scope

-- what is found in a member of a class
abbrev pub member : Home → MemberTree → List CheckFault
member home (m.Visible range at) = ranges range
member home (m.Reach range at) = ranges range
member home (m.State shared type name x at) = rule (type_named type) x (outermost home false)
member home (m.Effect shared type name c at) = joins (comb_named c) (type_named type) name.at
member home (m.Run statements at) = block (map part statements) (outermost home true)
member home (m.Die condition at) = valued (Some ty.Bool) condition (outermost home false)
member home (m.Spawn condition gifts at) =
    valued (Some ty.Bool) condition (outermost home false)
    ++ flat_map (gift (outermost home false)) gifts

-- what is found in a script
abbrev pub found : Tree → List CheckFault
found tree = in_classes member (known tree.classes) 0 tree.classes
