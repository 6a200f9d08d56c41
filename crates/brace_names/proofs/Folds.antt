-- What a fold over an expression or a statement of a script comes to, and facts of all of them that are shown kind by kind.
use Rattle.std.proofs.Common.{◌≡◌, ◌∙◌, sym, ap, ℕ, List, map, refl, subst, [], ◌∷◌}
use Rattle.std.specs.Prelude.{Some, None}
use Rattle.brace_syntax.specs.declared.tree.Ident.{Ident}
use Rattle.brace_syntax.specs.declared.tree.Number.{Number}
use Rattle.brace_syntax.specs.declared.tree.TyName.{TyName}
use Rattle.brace_syntax.specs.declared.tree.UnName.{UnName}
use Rattle.brace_syntax.specs.declared.tree.BinName.{BinName}
use Rattle.brace_syntax.specs.declared.tree.ExprTree.{ExprTree}
use Rattle.brace_syntax.specs.declared.tree.ExprTree.TheVariants as e
use Rattle.brace_syntax.specs.declared.tree.ExprTree.TheOpen as expr
use Rattle.brace_syntax.specs.declared.tree.ExprTree.TheFolds.{fold-ExprTree, fold-roll-ExprTree, map-ExprTree, ind-ExprTree}
use Rattle.brace_syntax.specs.declared.tree.StmtTree.{StmtTree}
use Rattle.brace_syntax.specs.declared.tree.StmtTree.TheVariants as s
use Rattle.brace_syntax.specs.declared.tree.StmtTree.TheOpen as stmt
use Rattle.brace_syntax.specs.declared.tree.StmtTree.TheFolds.{fold-StmtTree, fold-roll-StmtTree, map-StmtTree, ind-StmtTree}
use Rattle.brace_syntax.specs.declared.tree.ExprTree.TheViews.{roll-ExprTree}
use Rattle.brace_syntax.specs.declared.tree.StmtTree.TheViews.{roll-StmtTree}

module _ {A : Type 0} (step : expr.ExprTree-F A → A) where
  pub of-Lit : (n : Number) → fold-ExprTree A step (e.Lit n) ≡ step (expr.Lit n)
  of-Lit n = ap (fold-ExprTree A step) (sym (e.rolls-Lit n)) ∙ fold-roll-ExprTree A step (expr.Lit n)

  pub of-True : (at : ℕ) → fold-ExprTree A step (e.True at) ≡ step (expr.True at)
  of-True at = ap (fold-ExprTree A step) (sym (e.rolls-True at)) ∙ fold-roll-ExprTree A step (expr.True at)

  pub of-False : (at : ℕ) → fold-ExprTree A step (e.False at) ≡ step (expr.False at)
  of-False at = ap (fold-ExprTree A step) (sym (e.rolls-False at)) ∙ fold-roll-ExprTree A step (expr.False at)

  pub of-Name : (name : Ident) → fold-ExprTree A step (e.Name name) ≡ step (expr.Name name)
  of-Name name = ap (fold-ExprTree A step) (sym (e.rolls-Name name)) ∙ fold-roll-ExprTree A step (expr.Name name)

  pub of-OfThis : (name : Ident) (at : ℕ) → fold-ExprTree A step (e.OfThis name at) ≡ step (expr.OfThis name at)
  of-OfThis name at = ap (fold-ExprTree A step) (sym (e.rolls-OfThis name at)) ∙ fold-roll-ExprTree A step (expr.OfThis name at)

  pub of-OfLoop : (variable name : Ident) → fold-ExprTree A step (e.OfLoop variable name) ≡ step (expr.OfLoop variable name)
  of-OfLoop variable name =
      ap (fold-ExprTree A step) (sym (e.rolls-OfLoop variable name)) ∙ fold-roll-ExprTree A step (expr.OfLoop variable name)

  pub of-Unary : (op : UnName) (x : ExprTree) (at : ℕ)
      → fold-ExprTree A step (e.Unary op x at) ≡ step (expr.Unary op (fold-ExprTree A step x) at)
  of-Unary op x at = ap (fold-ExprTree A step) (sym (e.rolls-Unary op x at)) ∙ fold-roll-ExprTree A step (expr.Unary op x at)

  pub of-Binary : (op : BinName) (x y : ExprTree) (at : ℕ)
      → fold-ExprTree A step (e.Binary op x y at) ≡ step (expr.Binary op (fold-ExprTree A step x) (fold-ExprTree A step y) at)
  of-Binary op x y at = ap (fold-ExprTree A step) (sym (e.rolls-Binary op x y at)) ∙ fold-roll-ExprTree A step (expr.Binary op x y at)

  pub of-Choice : (c x y : ExprTree) (at : ℕ)
      → fold-ExprTree A step (e.Choice c x y at) ≡ step (expr.Choice (fold-ExprTree A step c) (fold-ExprTree A step x) (fold-ExprTree A step y) at)
  of-Choice c x y at = ap (fold-ExprTree A step) (sym (e.rolls-Choice c x y at)) ∙ fold-roll-ExprTree A step (expr.Choice c x y at)

  pub of-Rand : (at : ℕ) → fold-ExprTree A step (e.Rand at) ≡ step (expr.Rand at)
  of-Rand at = ap (fold-ExprTree A step) (sym (e.rolls-Rand at)) ∙ fold-roll-ExprTree A step (expr.Rand at)

module _ {A : Type 0} (step : stmt.StmtTree-F A → A) where
  pub of-Const : (type : TyName) (name : Ident) (x : ExprTree) (at : ℕ)
      → fold-StmtTree A step (s.Const type name x at) ≡ step (stmt.Const type name x at)
  of-Const type name x at = ap (fold-StmtTree A step) (sym (s.rolls-Const type name x at)) ∙ fold-roll-StmtTree A step (stmt.Const type name x at)

  pub of-when : (c : ExprTree) (a : List StmtTree) (at : ℕ)
      → fold-StmtTree A step (s.If c a None at) ≡ step (stmt.If c (map (fold-StmtTree A step) a) None at)
  of-when c a at = ap (fold-StmtTree A step) (sym (s.rolls-If c a None at)) ∙ fold-roll-StmtTree A step (stmt.If c a None at)

  pub of-either : (c : ExprTree) (a b : List StmtTree) (at : ℕ)
      → fold-StmtTree A step (s.If c a (Some b) at)
      ≡ step (stmt.If c (map (fold-StmtTree A step) a) (Some (map (fold-StmtTree A step) b)) at)
  of-either c a b at = ap (fold-StmtTree A step) (sym (s.rolls-If c a (Some b) at)) ∙ fold-roll-StmtTree A step (stmt.If c a (Some b) at)

  pub of-Foreach : (class variable other : Ident) (a : List StmtTree) (at : ℕ)
      → fold-StmtTree A step (s.Foreach class variable other a at)
      ≡ step (stmt.Foreach class variable other (map (fold-StmtTree A step) a) at)
  of-Foreach class variable other a at =
      ap (fold-StmtTree A step) (sym (s.rolls-Foreach class variable other a at))
      ∙ fold-roll-StmtTree A step (stmt.Foreach class variable other a at)

  pub of-Assign : (name : Ident) (x : ExprTree) → fold-StmtTree A step (s.Assign name x) ≡ step (stmt.Assign name x)
  of-Assign name x = ap (fold-StmtTree A step) (sym (s.rolls-Assign name x)) ∙ fold-roll-StmtTree A step (stmt.Assign name x)

  pub of-AssignThis : (name : Ident) (x : ExprTree) (at : ℕ) → fold-StmtTree A step (s.AssignThis name x at) ≡ step (stmt.AssignThis name x at)
  of-AssignThis name x at = ap (fold-StmtTree A step) (sym (s.rolls-AssignThis name x at)) ∙ fold-roll-StmtTree A step (stmt.AssignThis name x at)

  pub of-AssignLoop : (variable name : Ident) (x : ExprTree) → fold-StmtTree A step (s.AssignLoop variable name x) ≡ step (stmt.AssignLoop variable name x)
  of-AssignLoop variable name x =
      ap (fold-StmtTree A step) (sym (s.rolls-AssignLoop variable name x)) ∙ fold-roll-StmtTree A step (stmt.AssignLoop variable name x)

-- the fact of each kind of expression, from that of its operands
pub record Expressions (P : ExprTree → Type 0) : Type 0 where
  pub lit : (n : Number) → P (e.Lit n)
  pub true_ : (at : ℕ) → P (e.True at)
  pub false_ : (at : ℕ) → P (e.False at)
  pub name : (name : Ident) → P (e.Name name)
  pub of_this : (name : Ident) (at : ℕ) → P (e.OfThis name at)
  pub of_loop : (variable name : Ident) → P (e.OfLoop variable name)
  pub unary : (op : UnName) (x : ExprTree) (at : ℕ) → P x → P (e.Unary op x at)
  pub binary : (op : BinName) (x y : ExprTree) (at : ℕ) → P x → P y → P (e.Binary op x y at)
  pub choice : (c x y : ExprTree) (at : ℕ) → P c → P x → P y → P (e.Choice c x y at)
  pub rand : (at : ℕ) → P (e.Rand at)

module _ (P : ExprTree → Type 0) (each : Expressions P) where
  abbrev ProvedExpr : Type 0
  ProvedExpr = (x : ExprTree) × P x

  abbrev tree_of : ProvedExpr → ExprTree
  tree_of p = p.0

  expr_layer : (y : expr.ExprTree-F ProvedExpr) → P (roll-ExprTree (map-ExprTree ProvedExpr ExprTree tree_of y))
  expr_layer (expr.Lit n) = subst P (sym (e.rolls-Lit n)) (each.lit n)
  expr_layer (expr.True at) = subst P (sym (e.rolls-True at)) (each.true_ at)
  expr_layer (expr.False at) = subst P (sym (e.rolls-False at)) (each.false_ at)
  expr_layer (expr.Name name) = subst P (sym (e.rolls-Name name)) (each.name name)
  expr_layer (expr.OfThis name at) = subst P (sym (e.rolls-OfThis name at)) (each.of_this name at)
  expr_layer (expr.OfLoop variable name) = subst P (sym (e.rolls-OfLoop variable name)) (each.of_loop variable name)
  expr_layer (expr.Unary op x at) = subst P (sym (e.rolls-Unary op x.0 at)) (each.unary op x.0 at x.1)
  expr_layer (expr.Binary op x y at) = subst P (sym (e.rolls-Binary op x.0 y.0 at)) (each.binary op x.0 y.0 at x.1 y.1)
  expr_layer (expr.Choice c x y at) = subst P (sym (e.rolls-Choice c.0 x.0 y.0 at)) (each.choice c.0 x.0 y.0 at c.1 x.1 y.1)
  expr_layer (expr.Rand at) = subst P (sym (e.rolls-Rand at)) (each.rand at)

  pub of_expression : (x : ExprTree) → P x
  of_expression = ind-ExprTree P (λ x y is. subst (λ z. P (roll-ExprTree z)) is (expr_layer y))

-- a statement of which the fact is shown
abbrev pub ProvedStmt : (StmtTree → Type 0) → Type 0
ProvedStmt P = (x : StmtTree) × P x

abbrev pub stmts_of : {P : StmtTree → Type 0} → List (ProvedStmt P) → List StmtTree
stmts_of ys = map (λ y. y.0) ys

-- the fact of each kind of statement, from that of the statements of its blocks
pub record Statements (P : StmtTree → Type 0) : Type 0 where
  pub const : (type : TyName) (name : Ident) (x : ExprTree) (at : ℕ) → P (s.Const type name x at)
  pub when : (c : ExprTree) (a : List (ProvedStmt P)) (at : ℕ) → P (s.If c (stmts_of a) None at)
  pub either_way : (c : ExprTree) (a b : List (ProvedStmt P)) (at : ℕ) → P (s.If c (stmts_of a) (Some (stmts_of b)) at)
  pub foreach : (class variable other : Ident) (a : List (ProvedStmt P)) (at : ℕ) → P (s.Foreach class variable other (stmts_of a) at)
  pub assign : (name : Ident) (x : ExprTree) → P (s.Assign name x)
  pub assign_this : (name : Ident) (x : ExprTree) (at : ℕ) → P (s.AssignThis name x at)
  pub assign_loop : (variable name : Ident) (x : ExprTree) → P (s.AssignLoop variable name x)

module _ (P : StmtTree → Type 0) (each : Statements P) where
  abbrev stmt_of : ProvedStmt P → StmtTree
  stmt_of p = p.0

  stmt_layer : (y : stmt.StmtTree-F (ProvedStmt P)) → P (roll-StmtTree (map-StmtTree (ProvedStmt P) StmtTree stmt_of y))
  stmt_layer (stmt.Const type name x at) = subst P (sym (s.rolls-Const type name x at)) (each.const type name x at)
  stmt_layer (stmt.If c a None at) = subst P (sym (s.rolls-If c (map stmt_of a) None at)) (each.when c a at)
  stmt_layer (stmt.If c a (Some b) at) = subst P (sym (s.rolls-If c (map stmt_of a) (Some (map stmt_of b)) at)) (each.either_way c a b at)
  stmt_layer (stmt.Foreach class variable other a at) =
      subst P (sym (s.rolls-Foreach class variable other (map stmt_of a) at)) (each.foreach class variable other a at)
  stmt_layer (stmt.Assign name x) = subst P (sym (s.rolls-Assign name x)) (each.assign name x)
  stmt_layer (stmt.AssignThis name x at) = subst P (sym (s.rolls-AssignThis name x at)) (each.assign_this name x at)
  stmt_layer (stmt.AssignLoop variable name x) = subst P (sym (s.rolls-AssignLoop variable name x)) (each.assign_loop variable name x)

  pub of_statement : (x : StmtTree) → P x
  of_statement = ind-StmtTree P (λ x y is. subst (λ z. P (roll-StmtTree z)) is (stmt_layer y))

  -- statements, each with its fact
  pub proved : List StmtTree → List (ProvedStmt P)
  proved [] = []
  proved (x ∷ xs) = (x, of_statement x) ∷ proved xs

  pub stmts-proved : (xs : List StmtTree) → stmts_of (proved xs) ≡ xs
  unfolding proved
  stmts-proved [] = refl
  stmts-proved (x ∷ xs) = ap (λ (l : List StmtTree). x ∷ l) (stmts-proved xs)
