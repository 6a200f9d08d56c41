-- Function values that read expressions and blocks to a depth. Only the crate's own functions cite
-- this.
use Rattle.std.specs.Prelude.{ℕ, List, Result}
use Rattle.std.specs.declared.alloc.Global.{Global}
use denote.Ref.{MutBor}
use Rattle.brace_syntax.specs.declared.tree.ExprTree.{ExprTree}
use Rattle.brace_syntax.specs.declared.fault.Stop.{Stop}
use Rattle.brace_syntax.specs.declared.expr.Start.{Start}
use Rattle.brace_syntax.specs.inner.Cursor.{Input, Follows}
use Rattle.brace_syntax.specs.declared.tree.StmtTree.{StmtTree}
use Rattle.brace_syntax.specs.inner.Descent.{expr, block_to}

-- the function can be called to read expressions of this depth, and reads them
pub record Nests (depth : ℕ) (pre : Global → MutBor Input → ℕ → Start → Type 0)
    (post : Global → MutBor Input → ℕ → Start → Result ExprTree Stop → MutBor Input → Type 0)
    : Type 0 where
  pub callable : (alloc : Global) (old : MutBor Input) (start : Start) → pre alloc old depth start
  pub reads : (alloc : Global) (old new : MutBor Input) (start : Start) (r : Result ExprTree Stop)
      → post alloc old depth start r new
      → Follows (expr depth start old.now) r new.now

-- the function can be called to read blocks of this depth, and reads them
pub record NestsBlocks (depth : ℕ) (pre : Global → MutBor Input → ℕ → Type 0)
    (post : Global → MutBor Input → ℕ → Result (List StmtTree) Stop → MutBor Input → Type 0)
    : Type 0 where
  pub callable : (alloc : Global) (old : MutBor Input) → pre alloc old depth
  pub reads : (alloc : Global) (old new : MutBor Input) (r : Result (List StmtTree) Stop)
      → post alloc old depth r new
      → Follows (block_to depth old.now) r new.now
