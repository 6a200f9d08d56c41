use Rattle.std.specs.List.{AllZip}
use Rattle.std.proofs.Common.{subst}
use Rattle.std.proofs.lemmas.List.{take_all}
use Rattle.brace_plan.proofs.RuleLemmas.{one_code}
use Rattle.brace_fold.specs.inner.Rulings.{IsRunIf}
use Rattle.brace_fold.proofs.outcome.run_rules.Goals as goal

pub loop-rule-preserved : goal.loop-rule-preserved
loop-rule-preserved c =
    one_code (IsRunIf c.args.frame.now c.args.lanes.now) c.args.rules.now c.loop-rule.rule-index c.rule-item.result c.loop-rule.columns.items _ _ c.loop-rule-test.true c.rule-item.is
    c.loop-rule.invariant c.in_ok-column.ensures c.in_ok-push.ensures.items

pub returns : goal.returns
returns c =
    subst (λ l. AllZip (IsRunIf c.args.frame.now c.args.lanes.now) l c.loop-rule.columns.items)
    (take_all c.loop-rule.rule-index c.args.rules.now c.loop-rule-test.false) c.loop-rule.invariant
