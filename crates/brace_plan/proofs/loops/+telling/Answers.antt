use Rattle.std.proofs.Common.{◌≡◌, OnOk, subst}
use Rattle.brace_plan.proofs.Steps.{told_both, told_within}
use Rattle.brace_plan.proofs.loops.+telling.Goals as goal

pub tell-returns-in_ok-tell_all-in-If : goal.tell-returns-in_ok-tell_all-in-If
tell-returns-in_ok-tell_all-in-If t c =
    subst (λ p. OnOk c.tell_all-in-If.result (c.tell_all-in-If.new.loops ≡ p)) (told_both c.args.loops.now _ _ _ _ _ c.in-If.is c.in_ok-tell_all-in-If.ensures) c.tell_all-in-If.ensures

pub tell-returns-in_ok-push-in-Foreach : goal.tell-returns-in_ok-push-in-Foreach
tell-returns-in_ok-push-in-Foreach t c =
    subst (λ p. OnOk c.tell_all-in-Foreach.result (c.tell_all-in-Foreach.new.loops ≡ p))
    (told_within c.args.loops.now _ _ c.in-Foreach.class _ _ _ c.in-Foreach.at c.in-Foreach.is c.in_ok-count-in-Foreach.ensures c.in_ok-push-in-Foreach.ensures.ok) c.tell_all-in-Foreach.ensures
