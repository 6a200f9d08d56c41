-- Parts of blocks.
use Rattle.std.proofs.Common.{ℕ, List, [], ◌∷◌, ◌++◌, flat_map}
use Rattle.brace_model.specs.declared.program.Who.{Who}
use Rattle.brace_model.specs.declared.program.Expr.{Expr}
use Rattle.brace_model.specs.declared.program.Stmt.{Stmt}
use Rattle.brace_model.specs.declared.program.Stmt.TheVariants.{Const, If, Foreach, Assign}
use Rattle.brace_model.specs.Sites.{constant_numbers}
use Rattle.brace_invert.specs.Split.{places}
use Rattle.brace_model.proofs.Blocks as b
use Rattle.brace_model.proofs.Blocks.{Plain}

-- a block and a part of it: assignments are left out, and loops but for their constants
pub data Pruned : List Stmt → List Stmt → Type 0 where
  none : Pruned [] []
  const : (n : ℕ) (e : Expr) (s p : List Stmt) → Pruned s p → Pruned (Const n e ∷ s) (Const n e ∷ p)
  cond : (c : Expr) (a pa b pb s p : List Stmt) → Pruned a pa → Pruned b pb → Pruned s p → Pruned (If c a b ∷ s) (If c pa pb ∷ p)
  loop : (class at : ℕ) (body pb s p : List Stmt) → Pruned body pb → Pruned s p → Pruned (Foreach class body at ∷ s) (Foreach class pb at ∷ p)
  away : (class at : ℕ) (body s p : List Stmt) → Pruned s p → Pruned (Foreach class body at ∷ s) (places (flat_map constant_numbers body) ++ p)
  kept : (who : Who) (effect : ℕ) (e : Expr) (at : ℕ) (s p : List Stmt) → Pruned s p → Pruned (Assign who effect e at ∷ s) (Assign who effect e at ∷ p)
  left_out : (who : Who) (effect : ℕ) (e : Expr) (at : ℕ) (s p : List Stmt) → Pruned s p → Pruned (Assign who effect e at ∷ s) p

-- a block is a part of itself
pub itself : (s : List Stmt) → Plain s → Pruned s s
itself _ b.none = none
itself _ (b.const n e s h) = const n e s s (itself s h)
itself _ (b.cond c a b s ha hb h) = cond c a a b b s s (itself a ha) (itself b hb) (itself s h)
itself _ (b.loop class at body s hb h) = loop class at body body s s (itself body hb) (itself s h)
itself _ (b.say who effect e at s h) = kept who effect e at s s (itself s h)
