-- A fold over an expression or a statement of each kind is its step, over the folds of its parts.
use Rattle.std.proofs.Common.{◌≡◌, ◌∙◌, sym, ap, ℕ, List, map, Option}
use Rattle.brace_model.specs.declared.program.Ty.{Ty}
use Rattle.brace_model.specs.declared.program.Value.{Value}
use Rattle.brace_model.specs.declared.program.UnOp.{UnOp}
use Rattle.brace_model.specs.declared.program.BinOp.{BinOp}
use Rattle.brace_model.specs.declared.program.Who.{Who}
use Rattle.brace_model.specs.declared.program.Expr.{Expr}
use Rattle.brace_model.specs.declared.program.Expr.TheVariants.{Lit, Field, Total, Local, Unary, Binary, Choice, Rand, rolls-Lit, rolls-Field, rolls-Total, rolls-Local, rolls-Unary, rolls-Binary, rolls-Choice, rolls-Rand}
use Rattle.brace_model.specs.declared.program.Expr.TheOpen as expr
use Rattle.brace_model.specs.declared.program.Expr.TheFolds.{fold-Expr, fold-roll-Expr}
use Rattle.brace_model.specs.declared.program.Stmt.{Stmt}
use Rattle.brace_model.specs.declared.program.Stmt.TheVariants.{Const, If, Foreach, Assign, rolls-Const, rolls-If, rolls-Foreach, rolls-Assign}
use Rattle.brace_model.specs.declared.program.Stmt.TheOpen as stmt
use Rattle.brace_model.specs.declared.program.Stmt.TheFolds.{fold-Stmt, fold-roll-Stmt}

module _ {A : Type 0} (step : expr.Expr-F A → A) where
  abbrev of : Expr → A
  of = fold-Expr A step

  pub fold-Lit : (v : Value) → of (Lit v) ≡ step (expr.Lit v)
  fold-Lit v = ap of (sym (rolls-Lit v)) ∙ fold-roll-Expr A step (expr.Lit v)

  pub fold-Field : (who : Who) (i : ℕ) → of (Field who i) ≡ step (expr.Field who i)
  fold-Field who i = ap of (sym (rolls-Field who i)) ∙ fold-roll-Expr A step (expr.Field who i)

  pub fold-Total : (effect : ℕ) (type : Ty) (site : Option ℕ) → of (Total effect type site) ≡ step (expr.Total effect type site)
  fold-Total effect type site = ap of (sym (rolls-Total effect type site)) ∙ fold-roll-Expr A step (expr.Total effect type site)

  pub fold-Local : (n : ℕ) → of (Local n) ≡ step (expr.Local n)
  fold-Local n = ap of (sym (rolls-Local n)) ∙ fold-roll-Expr A step (expr.Local n)

  pub fold-Unary : (op : UnOp) (site : Option ℕ) (a : Expr) → of (Unary op site a) ≡ step (expr.Unary op site (of a))
  fold-Unary op site a = ap of (sym (rolls-Unary op site a)) ∙ fold-roll-Expr A step (expr.Unary op site a)

  pub fold-Binary : (op : BinOp) (site : Option ℕ) (a b : Expr) → of (Binary op site a b) ≡ step (expr.Binary op site (of a) (of b))
  fold-Binary op site a b = ap of (sym (rolls-Binary op site a b)) ∙ fold-roll-Expr A step (expr.Binary op site a b)

  pub fold-Choice : (c a b : Expr) → of (Choice c a b) ≡ step (expr.Choice (of c) (of a) (of b))
  fold-Choice c a b = ap of (sym (rolls-Choice c a b)) ∙ fold-roll-Expr A step (expr.Choice c a b)

  pub fold-Rand : (site : ℕ) → of (Rand site) ≡ step (expr.Rand site)
  fold-Rand site = ap of (sym (rolls-Rand site)) ∙ fold-roll-Expr A step (expr.Rand site)

module _ {A : Type 0} (step : stmt.Stmt-F A → A) where
  abbrev does : Stmt → A
  does = fold-Stmt A step

  pub fold-Const : (n : ℕ) (e : Expr) → does (Const n e) ≡ step (stmt.Const n e)
  fold-Const n e = ap does (sym (rolls-Const n e)) ∙ fold-roll-Stmt A step (stmt.Const n e)

  pub fold-If : (c : Expr) (a b : List Stmt) → does (If c a b) ≡ step (stmt.If c (map does a) (map does b))
  fold-If c a b = ap does (sym (rolls-If c a b)) ∙ fold-roll-Stmt A step (stmt.If c a b)

  pub fold-Foreach : (class : ℕ) (body : List Stmt) (at : ℕ) → does (Foreach class body at) ≡ step (stmt.Foreach class (map does body) at)
  fold-Foreach class body at = ap does (sym (rolls-Foreach class body at)) ∙ fold-roll-Stmt A step (stmt.Foreach class body at)

  pub fold-Assign : (who : Who) (effect : ℕ) (e : Expr) (at : ℕ) → does (Assign who effect e at) ≡ step (stmt.Assign who effect e at)
  fold-Assign who effect e at = ap does (sym (rolls-Assign who effect e at)) ∙ fold-roll-Stmt A step (stmt.Assign who effect e at)
