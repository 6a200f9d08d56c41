use Rattle.std.proofs.Common.{◌≡◌, ◌≤◌, ◌+◌, ap, length, arith}
use Rattle.brace_plan.specs.Planning.{IsPlanOf}
use Rattle.brace_plan.proofs.Whole.{one_more, all_there, class_found, loops_told}
use Rattle.brace_plan.proofs.plans.plan_queries.Goals as goal

pub loop-class-preserved : goal.loop-class-preserved
loop-class-preserved c =
    let at = c.loop-class.invariant in
    let classes = c.as_slice-class-items.ensures in
    let low = c.loop-class-test.true in
    record {
      number = ap (λ n. n + 1) at.number;
      plans = one_more c.args.program.now (λ n class planned. IsPlanOf c.args.program.now n class.query planned) c.loop-class.class-index c.loop-class.number _ _ _ _ at.plans at.number
          (class_found _ _ c.loop-class.class-index _ classes (omega (arith, low, c.loop-class.auto.class-index-end)) c.class-item.is c.loop-class.number at.number)
          c.in_ok-planned.ensures c.in_ok-push.ensures.ok;
      loops = loops_told _ _ c.loop-class.class-index _ classes (omega (arith, low, c.loop-class.auto.class-index-end)) c.class-item.is _ _ _ _ _ at.loops c.in_ok-tell_all.ensures c.in_ok-planned.ensures.told;
    }

pub returns-clause-plans : goal.returns-clause-plans
returns-clause-plans c =
    let many : length c.as_slice-class-items.result.now ≡ length c.args.program.now.classes = ap length c.as_slice-class-items.ensures in
    all_there c.args.program.now (λ n class planned. IsPlanOf c.args.program.now n class.query planned) c.loop-class.class-index c.loop-class.queries (let past : length c.args.program.now.classes ≤ c.loop-class.class-index = omega (arith, many, c.loop-class-test.false, c.loop-class.auto.class-index-end) in past)
    c.loop-class.invariant.plans
