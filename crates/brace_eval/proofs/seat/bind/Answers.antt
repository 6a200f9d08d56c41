use Rattle.brace_eval.proofs.TrailLemmas.{rebound}
use Rattle.brace_eval.proofs.seat.bind.Goals as goal

pub returns-in_ok-push-clause-undone : goal.returns-in_ok-push-clause-undone
returns-in_ok-push-clause-undone c =
    rw c.in_ok-push.ensures.items (rebound c.args.trail.now.items c.args.n _ c.args.v c.args.locals.now)
