use Rattle.brace_plan.proofs.QueryLemmas.{told-next}
use Rattle.brace_plan.proofs.query.by_id.Goals as goal

pub loop-one-preserved : goal.loop-one-preserved
loop-one-preserved c =
    told-next c.args.agents.now c.args.said.now c.loop-one.one-index _ c.index-agents-one.result c.loop-one.told c.push.new.self
    c.loop-one-test.true (c.requires c.loop-one.one-index _ c.loop-one-test.true) c.in_ok-push.ensures.ok c.loop-one.invariant
