-- The canonical text says nothing of places.
use Rattle.std.proofs.Common.{◌≡◌, ◌∙◌, sym, ap, subst, refl, ℕ, List, [], ◌∷◌, ◌++◌, map, flat_map, Option, Some, None, codes}
use Rattle.std.specs.Prelude.{option_map}
use Rattle.brace_syntax.specs.declared.tree.TyName.{TyName}
use Rattle.brace_syntax.specs.declared.tree.TyName.TheVariants as ty
use Rattle.brace_syntax.specs.declared.tree.ExprTree.{ExprTree}
use Rattle.brace_syntax.specs.declared.tree.ExprTree.TheVariants as e
use Rattle.brace_syntax.specs.declared.tree.ExprTree.TheOpen as expr
use Rattle.brace_syntax.specs.declared.tree.ExprTree.TheFolds.{map-ExprTree, fold-roll-ExprTree, ind-ExprTree}
use Rattle.brace_syntax.specs.declared.tree.StmtTree.{StmtTree}
use Rattle.brace_syntax.specs.declared.tree.StmtTree.TheVariants as s
use Rattle.brace_syntax.specs.declared.tree.StmtTree.TheOpen as stmt
use Rattle.brace_syntax.specs.declared.tree.StmtTree.TheFolds.{map-StmtTree, fold-roll-StmtTree, ind-StmtTree}
use Rattle.brace_syntax.specs.declared.tree.StmtTree.TheViews.{roll-StmtTree}
use Rattle.brace_syntax.specs.declared.tree.GiftTree.{GiftTree}
use Rattle.brace_syntax.specs.declared.tree.MemberTree.{MemberTree}
use Rattle.brace_syntax.specs.declared.tree.MemberTree.TheVariants as m
use Rattle.brace_syntax.specs.declared.tree.ClassTree.{ClassTree}
use Rattle.brace_syntax.specs.declared.tree.Tree.{Tree}
use Rattle.brace_show.specs.Alike.{ident_at_0, number_at_0, type_at_0, expr_step, expr_at_0, stmt_step, stmt_at_0, gift_at_0, member_at_0, class_at_0, Alike}
use Rattle.brace_show.specs.Canonical.{line, deeper, type_text, combinator, block, statement_step, statement, sharing, rule, gift_text, member_text, class_text, canonical}
use Rattle.brace_show.specs.Expressions.{Phrase, phrase_step, phrase_of, at_level, expression}

-- expressions
step_same : (l : expr.ExprTree-F ExprTree) → phrase_of (expr_step l) ≡ phrase_step (map-ExprTree ExprTree Phrase phrase_of l)
step_same (expr.Lit n) = ap phrase_of (sym (e.rolls-Lit (number_at_0 n))) ∙ fold-roll-ExprTree Phrase phrase_step (expr.Lit (number_at_0 n))
step_same (expr.True at) = ap phrase_of (sym (e.rolls-True 0)) ∙ fold-roll-ExprTree Phrase phrase_step (expr.True 0)
step_same (expr.False at) = ap phrase_of (sym (e.rolls-False 0)) ∙ fold-roll-ExprTree Phrase phrase_step (expr.False 0)
step_same (expr.Name n) = ap phrase_of (sym (e.rolls-Name (ident_at_0 n))) ∙ fold-roll-ExprTree Phrase phrase_step (expr.Name (ident_at_0 n))
step_same (expr.OfThis n at) = ap phrase_of (sym (e.rolls-OfThis (ident_at_0 n) 0)) ∙ fold-roll-ExprTree Phrase phrase_step (expr.OfThis (ident_at_0 n) 0)
step_same (expr.OfLoop q n) =
    ap phrase_of (sym (e.rolls-OfLoop (ident_at_0 q) (ident_at_0 n))) ∙ fold-roll-ExprTree Phrase phrase_step (expr.OfLoop (ident_at_0 q) (ident_at_0 n))
step_same (expr.Unary op x at) = ap phrase_of (sym (e.rolls-Unary op x 0)) ∙ fold-roll-ExprTree Phrase phrase_step (expr.Unary op x 0)
step_same (expr.Binary op x y at) = ap phrase_of (sym (e.rolls-Binary op x y 0)) ∙ fold-roll-ExprTree Phrase phrase_step (expr.Binary op x y 0)
step_same (expr.Choice c x y at) = ap phrase_of (sym (e.rolls-Choice c x y 0)) ∙ fold-roll-ExprTree Phrase phrase_step (expr.Choice c x y 0)
step_same (expr.Rand at) = ap phrase_of (sym (e.rolls-Rand 0)) ∙ fold-roll-ExprTree Phrase phrase_step (expr.Rand 0)

abbrev Unplaced : ExprTree → Type 0
Unplaced x = phrase_of (expr_at_0 x) ≡ phrase_of x

abbrev tree_of : (x : ExprTree) × Unplaced x → ExprTree
tree_of p = p.0

operands_same : (y : expr.ExprTree-F ((x : ExprTree) × Unplaced x))
    → map-ExprTree ExprTree Phrase phrase_of (map-ExprTree ExprTree ExprTree expr_at_0 (map-ExprTree ((x : ExprTree) × Unplaced x) ExprTree tree_of y))
    ≡ map-ExprTree ExprTree Phrase phrase_of (map-ExprTree ((x : ExprTree) × Unplaced x) ExprTree tree_of y)
operands_same (expr.Unary op x at) = ap (λ v. expr.Unary op v at) x.1
operands_same (expr.Binary op x y at) = rw (x.1, y.1) refl
operands_same (expr.Choice c x y at) = rw (c.1, x.1, y.1) refl
operands_same _ = refl

phrase_same : (x : ExprTree) → phrase_of (expr_at_0 x) ≡ phrase_of x
phrase_same = ind-ExprTree Unplaced (λ x y is.
    let agrees : map-ExprTree ExprTree Phrase phrase_of (map-ExprTree ExprTree ExprTree expr_at_0 x) ≡ map-ExprTree ExprTree Phrase phrase_of x =
    subst (λ z. map-ExprTree ExprTree Phrase phrase_of (map-ExprTree ExprTree ExprTree expr_at_0 z) ≡ map-ExprTree ExprTree Phrase phrase_of z) is (operands_same y) in
    ap phrase_of (fold-roll-ExprTree ExprTree expr_step x) ∙ step_same (map-ExprTree ExprTree ExprTree expr_at_0 x) ∙ ap phrase_step agrees ∙ sym (fold-roll-ExprTree Phrase phrase_step x))

expression_same : (x : ExprTree) → expression (expr_at_0 x) ≡ expression x
expression_same x = ap (at_level 1) (phrase_same x)

type_same : (type : TyName) → type_text (type_at_0 type) ≡ type_text type
type_same ty.Int = refl
type_same _ = refl

rule_same : (x : Option ExprTree) → rule (option_map expr_at_0 x) ≡ rule x
rule_same None = refl
rule_same (Some x) = ap (λ t. codes " : " ++ t) (expression_same x)

-- statements
abbrev UnplacedStmt : StmtTree → Type 0
UnplacedStmt x = (margin : List ℕ) → statement (stmt_at_0 x) margin ≡ statement x margin

abbrev Known : Type 0
Known = (x : StmtTree) × UnplacedStmt x

abbrev stmt_of : Known → StmtTree
stmt_of p = p.0

block_same : (ys : List Known) (margin : List ℕ) → block (map statement (map stmt_at_0 (map stmt_of ys))) margin ≡ block (map statement (map stmt_of ys)) margin
block_same [] margin = refl
block_same (y ∷ ys) margin = ap (λ t. t ++ block (map statement (map stmt_at_0 (map stmt_of ys))) margin) (y.1 (deeper margin)) ∙ ap (λ t. statement y.0 (deeper margin) ++ t) (block_same ys margin)

abbrev Lines : Type 0
Lines = List ℕ → List ℕ

-- a statement is laid out by its kind
laid_out : (l : stmt.StmtTree-F StmtTree) (margin : List ℕ) → statement (roll-StmtTree l) margin ≡ statement_step (map-StmtTree StmtTree Lines statement l) margin
laid_out l margin = ap (λ f. f margin) (fold-roll-StmtTree Lines statement_step l)

stmt_step_same : (y : stmt.StmtTree-F Known) (margin : List ℕ)
    → statement (stmt_step (map-StmtTree StmtTree StmtTree stmt_at_0 (map-StmtTree Known StmtTree stmt_of y))) margin
    ≡ statement_step (map-StmtTree StmtTree Lines statement (map-StmtTree Known StmtTree stmt_of y)) margin
stmt_step_same (stmt.Const type n x at) margin =
    ap (λ v. statement v margin) (sym (s.rolls-Const (type_at_0 type) (ident_at_0 n) (expr_at_0 x) 0)) ∙ laid_out (stmt.Const (type_at_0 type) (ident_at_0 n) (expr_at_0 x) 0) margin
    ∙ ap (λ t. line margin (codes "const " ++ t ++ codes " " ++ n.text ++ codes " = " ++ expression (expr_at_0 x) ++ codes ";")) (type_same type)
    ∙ ap (λ t. line margin (codes "const " ++ type_text type ++ codes " " ++ n.text ++ codes " = " ++ t ++ codes ";")) (expression_same x)
stmt_step_same (stmt.If c ys None at) margin =
    ap (λ v. statement v margin) (sym (s.rolls-If (expr_at_0 c) (map stmt_at_0 (map stmt_of ys)) None 0)) ∙ laid_out (stmt.If (expr_at_0 c) (map stmt_at_0 (map stmt_of ys)) None 0) margin
    ∙ ap (λ t. line margin (codes "if (" ++ t ++ codes ") {") ++ block (map statement (map stmt_at_0 (map stmt_of ys))) margin ++ [] ++ line margin (codes "}")) (expression_same c)
    ∙ ap (λ t. line margin (codes "if (" ++ expression c ++ codes ") {") ++ t ++ [] ++ line margin (codes "}")) (block_same ys margin)
stmt_step_same (stmt.If c ys (Some zs) at) margin =
    ap (λ v. statement v margin) (sym (s.rolls-If (expr_at_0 c) (map stmt_at_0 (map stmt_of ys)) (Some (map stmt_at_0 (map stmt_of zs))) 0))
    ∙ laid_out (stmt.If (expr_at_0 c) (map stmt_at_0 (map stmt_of ys)) (Some (map stmt_at_0 (map stmt_of zs))) 0) margin
    ∙ ap (λ t. line margin (codes "if (" ++ t ++ codes ") {") ++ block (map statement (map stmt_at_0 (map stmt_of ys))) margin
    ++ (line margin (codes "} else {") ++ block (map statement (map stmt_at_0 (map stmt_of zs))) margin) ++ line margin (codes "}")) (expression_same c)
    ∙ ap (λ t. line margin (codes "if (" ++ expression c ++ codes ") {") ++ t
    ++ (line margin (codes "} else {") ++ block (map statement (map stmt_at_0 (map stmt_of zs))) margin) ++ line margin (codes "}")) (block_same ys margin)
    ∙ ap (λ t. line margin (codes "if (" ++ expression c ++ codes ") {") ++ block (map statement (map stmt_of ys)) margin
    ++ (line margin (codes "} else {") ++ t) ++ line margin (codes "}")) (block_same zs margin)
stmt_step_same (stmt.Foreach class variable other ys at) margin =
    ap (λ v. statement v margin) (sym (s.rolls-Foreach (ident_at_0 class) (ident_at_0 variable) (ident_at_0 other) (map stmt_at_0 (map stmt_of ys)) 0))
    ∙ laid_out (stmt.Foreach (ident_at_0 class) (ident_at_0 variable) (ident_at_0 other) (map stmt_at_0 (map stmt_of ys)) 0) margin
    ∙ ap (λ t. line margin (codes "foreach (" ++ class.text ++ codes " " ++ variable.text ++ codes " : Extent<" ++ other.text ++ codes ">) {") ++ t ++ line margin (codes "}")) (block_same ys margin)
stmt_step_same (stmt.Assign n x) margin =
    ap (λ v. statement v margin) (sym (s.rolls-Assign (ident_at_0 n) (expr_at_0 x))) ∙ laid_out (stmt.Assign (ident_at_0 n) (expr_at_0 x)) margin
    ∙ ap (λ t. line margin (n.text ++ codes " <- " ++ t ++ codes ";")) (expression_same x)
stmt_step_same (stmt.AssignThis n x at) margin =
    ap (λ v. statement v margin) (sym (s.rolls-AssignThis (ident_at_0 n) (expr_at_0 x) 0)) ∙ laid_out (stmt.AssignThis (ident_at_0 n) (expr_at_0 x) 0) margin
    ∙ ap (λ t. line margin (codes "this." ++ n.text ++ codes " <- " ++ t ++ codes ";")) (expression_same x)
stmt_step_same (stmt.AssignLoop q n x) margin =
    ap (λ v. statement v margin) (sym (s.rolls-AssignLoop (ident_at_0 q) (ident_at_0 n) (expr_at_0 x))) ∙ laid_out (stmt.AssignLoop (ident_at_0 q) (ident_at_0 n) (expr_at_0 x)) margin
    ∙ ap (λ t. line margin (q.text ++ codes "." ++ n.text ++ codes " <- " ++ t ++ codes ";")) (expression_same x)

statement_same : (x : StmtTree) (margin : List ℕ) → statement (stmt_at_0 x) margin ≡ statement x margin
statement_same = ind-StmtTree UnplacedStmt (λ x y is margin.
    let step : statement (stmt_step (map-StmtTree StmtTree StmtTree stmt_at_0 x)) margin ≡ statement_step (map-StmtTree StmtTree Lines statement x) margin =
    subst (λ z. statement (stmt_step (map-StmtTree StmtTree StmtTree stmt_at_0 z)) margin ≡ statement_step (map-StmtTree StmtTree Lines statement z) margin) is (stmt_step_same y margin) in
    ap (λ v. statement v margin) (fold-roll-StmtTree StmtTree stmt_step x) ∙ step ∙ sym (laid_out x margin))

-- texts that do not change under a map of what they are of
flat_same : {A : Type 0} (f : A → List ℕ) (g : A → A) → ((x : A) → f (g x) ≡ f x) → (xs : List A) → flat_map f (map g xs) ≡ flat_map f xs
flat_same f g same [] = refl
flat_same f g same (x ∷ xs) = ap (λ t. t ++ flat_map f (map g xs)) (same x) ∙ ap (λ t. f x ++ t) (flat_same f g same xs)

statements_same : (xs : List StmtTree) (margin : List ℕ) → block (map statement (map stmt_at_0 xs)) margin ≡ block (map statement xs) margin
statements_same [] margin = refl
statements_same (x ∷ xs) margin =
    ap (λ t. t ++ block (map statement (map stmt_at_0 xs)) margin) (statement_same x (deeper margin)) ∙ ap (λ t. statement x (deeper margin) ++ t) (statements_same xs margin)

gift_same : (margin : List ℕ) (x : GiftTree) → gift_text margin (gift_at_0 x) ≡ gift_text margin x
gift_same margin x = ap (λ t. line margin (x.state.text ++ codes " <- " ++ t ++ codes ";")) (expression_same x.value)

member_same : (margin : List ℕ) (x : MemberTree) → member_text margin (member_at_0 x) ≡ member_text margin x
member_same margin (m.State shared type name x at) =
    ap (λ t. line margin (sharing shared ++ codes " state " ++ t ++ codes " " ++ name.text ++ rule (option_map expr_at_0 x) ++ codes ";")) (type_same type)
    ∙ ap (λ t. line margin (sharing shared ++ codes " state " ++ type_text type ++ codes " " ++ name.text ++ t ++ codes ";")) (rule_same x)
member_same margin (m.Effect shared type name comb at) =
    ap (λ t. line margin (sharing shared ++ codes " effect " ++ t ++ codes " " ++ name.text ++ codes " : " ++ combinator comb ++ codes ";")) (type_same type)
member_same margin (m.Run statements at) =
    ap (λ t. line margin (codes "public void run() {") ++ t ++ line margin (codes "}")) (statements_same statements margin)
member_same margin (m.Die x at) = ap (λ t. line margin (codes "die when " ++ t ++ codes ";")) (expression_same x)
member_same margin (m.Spawn x gifts at) =
    ap (λ t. line margin (codes "spawn when " ++ t ++ codes " {") ++ flat_map (gift_text (deeper margin)) (map gift_at_0 gifts) ++ line margin (codes "}")) (expression_same x)
    ∙ ap (λ t. line margin (codes "spawn when " ++ expression x ++ codes " {") ++ t ++ line margin (codes "}")) (flat_same (gift_text (deeper margin)) gift_at_0 (gift_same (deeper margin)) gifts)
member_same margin _ = refl

class_same : (class : ClassTree) → class_text (class_at_0 class) ≡ class_text class
class_same class =
    ap (λ t. line [] (codes "class " ++ class.name.text ++ codes " {") ++ t ++ line [] (codes "}")) (flat_same (member_text (deeper [])) member_at_0 (member_same (deeper [])) class.members)

-- scripts that are the same apart from places have one text
pub one_text : (tree other : Tree) → Alike tree other → canonical tree ≡ canonical other
one_text tree other alike =
    sym (flat_same class_text class_at_0 class_same tree.classes) ∙ ap (flat_map class_text) alike ∙ flat_same class_text class_at_0 class_same other.classes
