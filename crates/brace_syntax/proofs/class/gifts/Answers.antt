use Rattle.std.proofs.Common.{rules, arith}
use Rattle.std.proofs.lemmas.Grind.{common_steps}
use Rattle.brace_syntax.specs.inner.Descent.{gifts_from}
use Rattle.brace_syntax.proofs.Turns.{one_more}
use Rattle.brace_syntax.proofs.class.gifts.Goals as goal

pub loop-turn-preserved : goal.loop-turn-preserved
unfolding gifts_from
loop-turn-preserved c =
    let e = one_more (λ n. gifts_from n c.loop-turn.found c.loop-turn.tokens) _ c.loop-turn._turn c.loop-turn-test.true c.loop-turn.invariant in
    first_of (search rules, grind (arith, common_steps))
