-- When two trees are the same apart from the places that they record.
use Rattle.std.specs.Prelude.{◌≡◌, map, option_map}
use Rattle.brace_syntax.specs.declared.tree.Ident.{Ident}
use Rattle.brace_syntax.specs.declared.tree.Number.{Number}
use Rattle.brace_syntax.specs.declared.tree.TyName.{TyName}
use Rattle.brace_syntax.specs.declared.tree.TyName.TheVariants as ty
use Rattle.brace_syntax.specs.declared.tree.ExprTree.{ExprTree}
use Rattle.brace_syntax.specs.declared.tree.ExprTree.TheVariants as e
use Rattle.brace_syntax.specs.declared.tree.ExprTree.TheOpen as expr
use Rattle.brace_syntax.specs.declared.tree.ExprTree.TheFolds.{fold-ExprTree}
use Rattle.brace_syntax.specs.declared.tree.StmtTree.{StmtTree}
use Rattle.brace_syntax.specs.declared.tree.StmtTree.TheVariants as s
use Rattle.brace_syntax.specs.declared.tree.StmtTree.TheOpen as stmt
use Rattle.brace_syntax.specs.declared.tree.StmtTree.TheFolds.{fold-StmtTree}
use Rattle.brace_syntax.specs.declared.tree.GiftTree.{GiftTree}
use Rattle.brace_syntax.specs.declared.tree.MemberTree.{MemberTree}
use Rattle.brace_syntax.specs.declared.tree.MemberTree.TheVariants as m
use Rattle.brace_syntax.specs.declared.tree.ClassTree.{ClassTree}
use Rattle.brace_syntax.specs.declared.tree.Tree.{Tree}

-- a name at place 0
abbrev pub ident_at_0 : Ident → Ident
ident_at_0 name = record { text = name.text; at = 0 }

-- a number at place 0
abbrev pub number_at_0 : Number → Number
number_at_0 number = record { digits = number.digits; at = 0 }

-- a type whose name is at place 0
abbrev pub type_at_0 : TyName → TyName
type_at_0 ty.Int = ty.Int
type_at_0 ty.Fixed = ty.Fixed
type_at_0 ty.Bool = ty.Bool
type_at_0 (ty.Other name) = ty.Other (ident_at_0 name)

-- an expression of each kind at place 0, whose operands are so already
abbrev pub expr_step : expr.ExprTree-F ExprTree → ExprTree
expr_step (expr.Lit number) = e.Lit (number_at_0 number)
expr_step (expr.True at) = e.True 0
expr_step (expr.False at) = e.False 0
expr_step (expr.Name name) = e.Name (ident_at_0 name)
expr_step (expr.OfThis name at) = e.OfThis (ident_at_0 name) 0
expr_step (expr.OfLoop loop name) = e.OfLoop (ident_at_0 loop) (ident_at_0 name)
expr_step (expr.Unary op x at) = e.Unary op x 0
expr_step (expr.Binary op x y at) = e.Binary op x y 0
expr_step (expr.Choice c x y at) = e.Choice c x y 0
expr_step (expr.Rand at) = e.Rand 0

-- an expression with 0 in each place
abbrev pub expr_at_0 : ExprTree → ExprTree
expr_at_0 = fold-ExprTree ExprTree expr_step

-- a statement of each kind at place 0, whose blocks are so already
abbrev pub stmt_step : stmt.StmtTree-F StmtTree → StmtTree
stmt_step (stmt.Const type name x at) = s.Const (type_at_0 type) (ident_at_0 name) (expr_at_0 x) 0
stmt_step (stmt.If c a b at) = s.If (expr_at_0 c) a b 0
stmt_step (stmt.Foreach class variable other a at) =
    s.Foreach (ident_at_0 class) (ident_at_0 variable) (ident_at_0 other) a 0
stmt_step (stmt.Assign name x) = s.Assign (ident_at_0 name) (expr_at_0 x)
stmt_step (stmt.AssignThis name x at) = s.AssignThis (ident_at_0 name) (expr_at_0 x) 0
stmt_step (stmt.AssignLoop loop name x) =
    s.AssignLoop (ident_at_0 loop) (ident_at_0 name) (expr_at_0 x)

-- a statement with 0 in each place
abbrev pub stmt_at_0 : StmtTree → StmtTree
stmt_at_0 = fold-StmtTree StmtTree stmt_step

-- a gift with 0 in each place
abbrev pub gift_at_0 : GiftTree → GiftTree
gift_at_0 gift = record { state = ident_at_0 gift.state; value = expr_at_0 gift.value }

-- a member with 0 in each place
abbrev pub member_at_0 : MemberTree → MemberTree
member_at_0 (m.Visible number at) = m.Visible (number_at_0 number) 0
member_at_0 (m.Reach number at) = m.Reach (number_at_0 number) 0
member_at_0 (m.State shared type name rule at) =
    m.State shared (type_at_0 type) (ident_at_0 name) (option_map expr_at_0 rule) 0
member_at_0 (m.Effect shared type name comb at) =
    m.Effect shared (type_at_0 type) (ident_at_0 name) comb 0
member_at_0 (m.Run block at) = m.Run (map stmt_at_0 block) 0
member_at_0 (m.Die x at) = m.Die (expr_at_0 x) 0
member_at_0 (m.Spawn x gifts at) = m.Spawn (expr_at_0 x) (map gift_at_0 gifts) 0

-- a class with 0 in each place
abbrev pub class_at_0 : ClassTree → ClassTree
class_at_0 class =
    record { name = ident_at_0 class.name; members = map member_at_0 class.members; at = 0 }

-- the two scripts are equal once every place is 0
abbrev pub Alike : Tree → Tree → Type 0
Alike tree other = map class_at_0 tree.classes ≡ map class_at_0 other.classes
