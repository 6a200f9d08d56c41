use Rattle.std.proofs.lemmas.Result.{err_from_is_err_and}
use Rattle.brace_command.specs.Commands.{Trial}
use Rattle.brace_command.specs.Words.{said_trial}
use Rattle.brace_command.proofs.AnswerLemmas.{stopped_serves}
use Rattle.brace_command.proofs.preparing.prepare.Goals as goal

pub returns-in_err-ready_trial-in-Trial-clause-prepared : goal.returns-in_err-ready_trial-in-Trial-clause-prepared
returns-in_err-ready_trial-in-Trial-clause-prepared g c =
    let p = err_from_is_err_and c.from_residual-in_err-ready_trial-in-Trial.result c.from_residual-in_err-ready_trial-in-Trial.ensures.1 in
    rw (p.1, p.2, c.in-Trial.is) (stopped_serves g.S.Shelf g.O.Sink (Trial (said_trial c.in-Trial.trial)) _ _ _ _ c.in_err-ready_trial-in-Trial.ensures.ready)
