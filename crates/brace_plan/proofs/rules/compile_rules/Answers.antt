use Rattle.std.proofs.Common.{◌≡◌, ◌≤◌, ◌+◌, ap, length, arith}
use Rattle.brace_model.specs.Lawful.{rule_scope}
use Rattle.brace_plan.specs.Ruling.{AreRulesOf}
use Rattle.brace_plan.proofs.Whole.{one_more, all_there, class_found}
use Rattle.brace_plan.proofs.rules.compile_rules.Goals as goal

pub loop-class-preserved : goal.loop-class-preserved
loop-class-preserved c =
    let at = c.loop-class.invariant in
    let low = c.loop-class-test.true in
    record {
      number = ap (λ n. n + 1) at.number;
      rules = one_more c.args.program.now (λ n class rules. AreRulesOf (rule_scope c.args.program.now n) class rules) c.loop-class.class-index c.loop-class.number _ _ _ _ at.rules at.number
          (class_found _ _ c.loop-class.class-index _ c.as_slice-class-items.ensures (omega (arith, low, c.loop-class.auto.class-index-end)) c.class-item.is c.loop-class.number at.number)
          c.in_ok-rules.ensures c.in_ok-push.ensures.ok;
    }

pub returns : goal.returns
returns c =
    let many : length c.as_slice-class-items.result.now ≡ length c.args.program.now.classes = ap length c.as_slice-class-items.ensures in
    all_there c.args.program.now (λ n class rules. AreRulesOf (rule_scope c.args.program.now n) class rules) c.loop-class.class-index c.loop-class.all
    (let past : length c.args.program.now.classes ≤ c.loop-class.class-index = omega (arith, many, c.loop-class-test.false, c.loop-class.auto.class-index-end) in past)
    c.loop-class.invariant.rules
