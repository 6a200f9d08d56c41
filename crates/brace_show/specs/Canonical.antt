-- The canonical text of a script: each member, statement and closing brace has a line of its own,
-- indented by two spaces for each brace that is open.
use Rattle.std.specs.Prelude.{ℕ, Bool, true, false, List, [], ◌++◌, map, flat_map, Option, Some, None, codes}
use Rattle.brace_syntax.specs.declared.tree.TyName.{TyName}
use Rattle.brace_syntax.specs.declared.tree.TyName.TheVariants as ty
use Rattle.brace_syntax.specs.declared.tree.CombName.{CombName}
use Rattle.brace_syntax.specs.declared.tree.CombName.TheVariants as comb
use Rattle.brace_syntax.specs.declared.tree.ExprTree.{ExprTree}
use Rattle.brace_syntax.specs.declared.tree.StmtTree.{StmtTree}
use Rattle.brace_syntax.specs.declared.tree.StmtTree.TheOpen.{StmtTree-F, Const, If, Foreach, Assign, AssignThis, AssignLoop}
use Rattle.brace_syntax.specs.declared.tree.StmtTree.TheFolds.{fold-StmtTree}
use Rattle.brace_syntax.specs.declared.tree.GiftTree.{GiftTree}
use Rattle.brace_syntax.specs.declared.tree.MemberTree.{MemberTree}
use Rattle.brace_syntax.specs.declared.tree.MemberTree.TheVariants as member
use Rattle.brace_syntax.specs.declared.tree.ClassTree.{ClassTree}
use Rattle.brace_syntax.specs.declared.tree.Tree.{Tree}
use Rattle.brace_show.specs.Literals.{literal}
use Rattle.brace_show.specs.Expressions.{expression}

-- a line behind its margin
abbrev pub line : List ℕ → List ℕ → List ℕ
line margin text = margin ++ text ++ codes "\n"

-- the margin of what stands in one brace more
abbrev pub deeper : List ℕ → List ℕ
deeper margin = margin ++ codes "  "

-- a type as it is written
abbrev pub type_text : TyName → List ℕ
type_text ty.Int = codes "int"
type_text ty.Fixed = codes "fixed"
type_text ty.Bool = codes "bool"
type_text (ty.Other name) = name.text

-- how an effect is joined, as it is written
abbrev pub combinator : CombName → List ℕ
combinator comb.Sum = codes "sum"
combinator comb.Min = codes "min"
combinator comb.Max = codes "max"
combinator comb.Count = codes "count"
combinator comb.Or = codes "or"

-- the lines of a block, whose statements are texts by their margin
abbrev pub block : List (List ℕ → List ℕ) → List ℕ → List ℕ
block statements margin = flat_map (λ s. s (deeper margin)) statements

-- the lines of an `else`, where one is written
abbrev pub otherwise : Option (List (List ℕ → List ℕ)) → List ℕ → List ℕ
otherwise None margin = []
otherwise (Some statements) margin = line margin (codes "} else {") ++ block statements margin

-- the lines of a statement of each kind
abbrev pub statement_step : StmtTree-F (List ℕ → List ℕ) → List ℕ → List ℕ
statement_step (Const type name x at) margin =
    line margin (codes "const " ++ type_text type ++ codes " " ++ name.text ++ codes " = " ++
    expression x ++ codes ";")
statement_step (If condition statements other at) margin =
    line margin (codes "if (" ++ expression condition ++ codes ") {")
    ++ block statements margin ++ otherwise other margin ++ line margin (codes "}")
statement_step (Foreach class variable other statements at) margin =
    line margin (codes "foreach (" ++ class.text ++ codes " " ++ variable.text ++
    codes " : Extent<" ++ other.text ++ codes ">) {")
    ++ block statements margin ++ line margin (codes "}")
statement_step (Assign name x) margin =
    line margin (name.text ++ codes " <- " ++ expression x ++ codes ";")
statement_step (AssignThis name x at) margin =
    line margin (codes "this." ++ name.text ++ codes " <- " ++ expression x ++ codes ";")
statement_step (AssignLoop loop name x) margin =
    line margin (loop.text ++ codes "." ++ name.text ++ codes " <- " ++ expression x ++ codes ";")

-- the lines of a statement behind a margin
abbrev pub statement : StmtTree → List ℕ → List ℕ
statement = fold-StmtTree (List ℕ → List ℕ) statement_step

-- the word that a field begins with
abbrev pub sharing : Bool → List ℕ
sharing true = codes "public"
sharing false = codes "private"

-- the rule of a state, where it has one
abbrev pub rule : Option ExprTree → List ℕ
rule None = []
rule (Some x) = codes " : " ++ expression x

-- the line of a gift behind a margin
abbrev pub gift_text : List ℕ → GiftTree → List ℕ
gift_text margin gift =
    line margin (gift.state.text ++ codes " <- " ++ expression gift.value ++ codes ";")

-- the lines of a member behind a margin
abbrev pub member_text : List ℕ → MemberTree → List ℕ
member_text margin (member.Visible range at) =
    line margin (codes "#visible[" ++ literal range.digits ++ codes "];")
member_text margin (member.Reach range at) =
    line margin (codes "#reach[" ++ literal range.digits ++ codes "];")
member_text margin (member.State shared type name x at) =
    line margin (sharing shared ++ codes " state " ++ type_text type ++ codes " " ++ name.text ++
    rule x ++ codes ";")
member_text margin (member.Effect shared type name comb at) =
    line margin (sharing shared ++ codes " effect " ++ type_text type ++ codes " " ++ name.text ++
    codes " : " ++ combinator comb ++ codes ";")
member_text margin (member.Run statements at) =
    line margin (codes "public void run() {") ++ block (map statement statements) margin
    ++ line margin (codes "}")
member_text margin (member.Die x at) = line margin (codes "die when " ++ expression x ++ codes ";")
member_text margin (member.Spawn x gifts at) =
    line margin (codes "spawn when " ++ expression x ++ codes " {")
    ++ flat_map (gift_text (deeper margin)) gifts ++ line margin (codes "}")

-- the lines of a class
abbrev pub class_text : ClassTree → List ℕ
class_text class =
    line [] (codes "class " ++ class.name.text ++ codes " {")
    ++ flat_map (member_text (deeper [])) class.members ++ line [] (codes "}")

-- the lines of a script
abbrev pub canonical : Tree → List ℕ
canonical tree = flat_map class_text tree.classes
