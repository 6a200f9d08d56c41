use Rattle.std.proofs.Common.{rules, arith}
use Rattle.std.proofs.lemmas.Grind.{common_steps}
use Rattle.brace_syntax.specs.inner.Descent.{expr, climb, joins, operand}
use Rattle.brace_syntax.proofs.LevelRows.{joined_is}
use Rattle.brace_syntax.proofs.Turns.{one_more}
use Rattle.brace_syntax.proofs.expr.Exprs.+levels.Goals as goal

pub joined-returns-in_err-left : goal.joined-returns-in_err-left
joined-returns-in_err-left g t c =
    let e = joined_is (expr c.args.self.now.depth) c.args.level c.args.tokens.now in first_of (search rules, grind (arith, common_steps))

pub joined-loop-turn-init : goal.joined-loop-turn-init
joined-loop-turn-init g t c =
    let e = joined_is (expr c.args.self.now.depth) c.args.level c.args.tokens.now in first_of (search rules, grind (arith, common_steps))

pub joined-loop-turn-preserved : goal.joined-loop-turn-preserved
unfolding climb
joined-loop-turn-preserved g t c =
    let depth = c.args.self.now.depth in
    let e = one_more (λ n. climb (expr depth) (joins c.args.level) (operand (expr depth) c.args.level) n c.loop-turn.left c.loop-turn.tokens) _ c.loop-turn._turn c.loop-turn-test.true c.loop-turn.invariant in
    first_of (search rules, grind (arith, common_steps))
