use Rattle.std.proofs.Common.{rules, arith}
use Rattle.std.proofs.lemmas.Grind.{common_steps}
use Rattle.brace_syntax.specs.inner.Descent.{block_to, statements}
use Rattle.brace_syntax.proofs.Turns.{one_more}
use Rattle.brace_syntax.proofs.stmt.Stmts.braced.Goals as goal

pub loop-turn-preserved : goal.loop-turn-preserved
unfolding statements
loop-turn-preserved g c =
    let e = one_more (λ n. statements (block_to c.args.self.now.depth) n c.loop-turn.found c.loop-turn.tokens) _ c.loop-turn._turn c.loop-turn-test.true c.loop-turn.invariant in
    first_of (search rules, grind (arith, common_steps))
