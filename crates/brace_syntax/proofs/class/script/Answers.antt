use Rattle.std.proofs.Common.{rules, arith}
use Rattle.std.proofs.lemmas.Grind.{common_steps}
use Rattle.brace_syntax.specs.inner.Cursor.{and_then, pure}
use Rattle.brace_syntax.specs.inner.Descent.{classes_from}
use Rattle.brace_syntax.proofs.Turns.{one_more}
use Rattle.brace_syntax.proofs.class.script.Goals as goal

pub loop-turn-preserved : goal.loop-turn-preserved
unfolding classes_from
loop-turn-preserved c =
    let e = one_more (λ n. and_then (classes_from n c.loop-turn.classes c.loop-turn.tokens) (λ all. pure (record { classes = all }))) _ c.loop-turn._turn c.loop-turn-test.true c.loop-turn.invariant in
    first_of (search rules, grind (arith, common_steps))
