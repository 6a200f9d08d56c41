use Rattle.std.proofs.Common.{◌≡◌, ap, arith, rules}
use Rattle.std.proofs.lemmas.Grind.{common_steps}
use Rattle.brace_syntax.specs.inner.Descent.{block_to}
use Rattle.brace_syntax.proofs.Turns.{deeper}
use Rattle.brace_syntax.proofs.stmt.+block_to.Goals as goal

pub returns-then-depth-eq0 : goal.returns-then-depth-eq0
unfolding block_to
returns-then-depth-eq0 t c = let none : c.args.depth ≡ 0 = omega arith in let e = ap (λ n. block_to n c.args.tokens.now) none in first_of (search rules, grind (arith, common_steps))

pub returns : goal.returns
unfolding block_to
returns t c = rw (deeper (λ n. block_to n c.args.tokens.now) c.args.depth (omega arith)) c.braced.ensures
