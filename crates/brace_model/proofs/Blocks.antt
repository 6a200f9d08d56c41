-- Blocks of statements, for proofs that go down them.
use Rattle.std.proofs.Common.{sym, subst, ℕ, List, [], ◌∷◌, map}
use Rattle.brace_model.specs.declared.program.Who.{Who}
use Rattle.brace_model.specs.declared.program.Expr.{Expr}
use Rattle.brace_model.specs.declared.program.Stmt.{Stmt, roll-Stmt}
use Rattle.brace_model.specs.declared.program.Stmt.TheVariants.{Const, If, Foreach, Assign, rolls-Const, rolls-If, rolls-Foreach, rolls-Assign}
use Rattle.brace_model.specs.declared.program.Stmt.TheOpen as layer
use Rattle.brace_model.specs.declared.program.Stmt.TheFolds.{map-Stmt, ind-Stmt}

-- a block, statement by statement
pub data Plain : List Stmt → Type 0 where
  none : Plain []
  const : (n : ℕ) (e : Expr) (s : List Stmt) → Plain s → Plain (Const n e ∷ s)
  cond : (c : Expr) (a b s : List Stmt) → Plain a → Plain b → Plain s → Plain (If c a b ∷ s)
  loop : (class at : ℕ) (body s : List Stmt) → Plain body → Plain s → Plain (Foreach class body at ∷ s)
  say : (who : Who) (effect : ℕ) (e : Expr) (at : ℕ) (s : List Stmt) → Plain s → Plain (Assign who effect e at ∷ s)

abbrev IsPlain : Stmt → Type 0
IsPlain x = (s : List Stmt) → Plain s → Plain (x ∷ s)

abbrev Known : Type 0
Known = (x : Stmt) × IsPlain x

abbrev stmt_of : Known → Stmt
stmt_of p = p.0

all_plain : (ys : List Known) → Plain (map stmt_of ys)
all_plain [] = none
all_plain (y ∷ ys) = y.1 (map stmt_of ys) (all_plain ys)

layer_plain : (y : layer.Stmt-F Known) → IsPlain (roll-Stmt (map-Stmt Known Stmt stmt_of y))
layer_plain (layer.Const n e) = subst IsPlain (sym (rolls-Const n e)) (λ s h. const n e s h)
layer_plain (layer.If c a b) = subst IsPlain (sym (rolls-If c (map stmt_of a) (map stmt_of b))) (λ s h. cond c (map stmt_of a) (map stmt_of b) s (all_plain a) (all_plain b) h)
layer_plain (layer.Foreach class body at) = subst IsPlain (sym (rolls-Foreach class (map stmt_of body) at)) (λ s h. loop class at (map stmt_of body) s (all_plain body) h)
layer_plain (layer.Assign who effect e at) = subst IsPlain (sym (rolls-Assign who effect e at)) (λ s h. say who effect e at s h)

statement_plain : (x : Stmt) → IsPlain x
statement_plain = ind-Stmt IsPlain (λ x y is. subst (λ z. IsPlain (roll-Stmt z)) is (layer_plain y))

pub plain : (s : List Stmt) → Plain s
plain [] = none
plain (x ∷ s) = statement_plain x s (plain s)

-- a block whose assignments are to some names alone
pub data Allowed (P : Who → Type 0) : List Stmt → Type 0 where
  none : Allowed P []
  const : (n : ℕ) (e : Expr) (s : List Stmt) → Allowed P s → Allowed P (Const n e ∷ s)
  cond : (c : Expr) (x y s : List Stmt) → Allowed P x → Allowed P y → Allowed P s → Allowed P (If c x y ∷ s)
  loop : (class at : ℕ) (body s : List Stmt) → Allowed P body → Allowed P s → Allowed P (Foreach class body at ∷ s)
  say : (x : Who) (effect : ℕ) (e : Expr) (at : ℕ) (s : List Stmt) → P x → Allowed P s → Allowed P (Assign x effect e at ∷ s)

pub all_allowed : (P : Who → Type 0) → ((x : Who) → P x) → (s : List Stmt) → Plain s → Allowed P s
all_allowed P each _ none = none
all_allowed P each _ (const n e s h) = const n e s (all_allowed P each s h)
all_allowed P each _ (cond c x y s hx hy h) = cond c x y s (all_allowed P each x hx) (all_allowed P each y hy) (all_allowed P each s h)
all_allowed P each _ (loop class at body s hb h) = loop class at body s (all_allowed P each body hb) (all_allowed P each s h)
all_allowed P each _ (say x effect e at s h) = say x effect e at s (each x) (all_allowed P each s h)

-- a block may assign to any name
pub free : (s : List Stmt) → Allowed (λ x. Unit {0}) s
free s = all_allowed (λ x. Unit {0}) (λ x. tt) s (plain s)
