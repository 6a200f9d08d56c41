use Rattle.std.specs.List.{AllZip}
use Rattle.std.proofs.Common.{subst}
use Rattle.std.proofs.lemmas.List.{take_all}
use Rattle.brace_plan.proofs.RuleLemmas.{one_code}
use Rattle.brace_fold.specs.inner.Rulings.{IsRun}
use Rattle.brace_fold.proofs.outcome.run_gifts.Goals as goal

pub loop-gift-preserved : goal.loop-gift-preserved
loop-gift-preserved c =
    one_code (IsRun c.args.frame.now c.args.lanes.now) c.args.gifts.now c.loop-gift.gift-index c.gift-item.result c.loop-gift.columns.items _ _ c.loop-gift-test.true c.gift-item.is
    c.loop-gift.invariant c.in_ok-column.ensures c.in_ok-push.ensures.items

pub returns : goal.returns
returns c =
    subst (λ l. AllZip (IsRun c.args.frame.now c.args.lanes.now) l c.loop-gift.columns.items)
    (take_all c.loop-gift.gift-index c.args.gifts.now c.loop-gift-test.false) c.loop-gift.invariant
