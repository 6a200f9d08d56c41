use Rattle.brace_tok.proofs.Scans.{close_step_first, close_step_second}
use Rattle.brace_tok.proofs.runs.close_at.Goals as goal
use Rattle.brace_tok.proofs.runs.close_at.Goals.{else-text-next-eq42-via-then-text-next-eq42+else-text-next-eq47, else-text-next-eq42-via-else-text-next-eq42}

pub loop-next-preserved : goal.loop-next-preserved
loop-next-preserved c =
    elim c.else-text-next-eq42.branch [
      | else-text-next-eq42-via-then-text-next-eq42+else-text-next-eq47 w ↦
          close_step_second _ _ c.loop-next.auto.next c.loop-next-test.true w.if-text-next-eq47.false c.loop-next.invariant
      | else-text-next-eq42-via-else-text-next-eq42 w ↦
          close_step_first _ _ c.loop-next.auto.next c.loop-next-test.true w.if-text-next-eq42.false c.loop-next.invariant
    ]
