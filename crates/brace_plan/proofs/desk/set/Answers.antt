use Rattle.brace_plan.proofs.FormerLemmas.{sets-one}
use Rattle.brace_plan.proofs.desk.set.Goals as goal

pub returns-in_ok-push-clause-noted : goal.returns-in_ok-push-clause-noted
returns-in_ok-push-clause-noted c =
    rw c.in_ok-push.ensures.items (sets-one c.args.trail.now.items c.args.n _ c.args.v c.args.locals.now)
