-- The rows of a level are its operands and what it joins.
use Rattle.std.proofs.Common.{◌≡◌, refl}
use Rattle.brace_syntax.specs.declared.tree.ExprTree.{ExprTree}
use Rattle.brace_syntax.specs.declared.expr.Start.{Start}
use Rattle.brace_syntax.specs.declared.operators.Level.{Level}
use Rattle.brace_syntax.specs.declared.operators.Level.TheVariants as level
use Rattle.brace_syntax.specs.inner.Cursor.{Input, Parser, and_then}
use Rattle.brace_syntax.specs.inner.Descent as d

pub joined_is : (f : Start → Parser ExprTree) (at : Level) (i : Input)
    → d.joined f at i ≡ and_then (d.operand f at i) (λ left j. d.climb f (d.joins at) (d.operand f at) (d.most at (d.turns j)) left j)
unfolding d.product d.total d.comparison d.conjunction d.disjunction
joined_is f level.Product i = refl
joined_is f _ i = refl
