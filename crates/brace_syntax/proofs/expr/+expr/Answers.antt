use Rattle.std.proofs.Common.{◌≡◌, ap, arith, rules}
use Rattle.std.proofs.lemmas.Grind.{common_steps}
use Rattle.brace_syntax.specs.inner.Descent.{expr}
use Rattle.brace_syntax.proofs.Turns.{deeper}
use Rattle.brace_syntax.proofs.expr.+expr.Goals as goal

pub returns-then-depth-eq0 : goal.returns-then-depth-eq0
unfolding expr
returns-then-depth-eq0 t c = let none : c.args.depth ≡ 0 = omega arith in let e = ap (λ n. expr n c.args.start c.args.tokens.now) none in first_of (search rules, grind (arith, common_steps))

pub returns : goal.returns
unfolding expr
returns t c = rw (deeper (λ n. expr n c.args.start c.args.tokens.now) c.args.depth (omega arith)) c.level.ensures
