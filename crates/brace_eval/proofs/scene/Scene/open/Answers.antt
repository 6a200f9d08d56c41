use Rattle.std.proofs.Common.{◌∙◌}
use Rattle.brace_eval.proofs.TableLemmas.{more-ids}
use Rattle.brace_eval.proofs.scene.Scene.open.Goals as goal

pub loop-agent-preserved : goal.loop-agent-preserved
loop-agent-preserved c =
    c.in_ok-push.ensures.items
    ∙ more-ids c.args.agents.now c.loop-agent.agent-index c.agent-item.result _ c.loop-agent-test.true c.agent-item.is c.loop-agent.invariant
