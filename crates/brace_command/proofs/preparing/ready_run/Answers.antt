use Rattle.std.specs.Prelude.{Some}
use Rattle.std.proofs.lemmas.Result.{err_from_is_err_and}
use Rattle.brace_command.specs.Commands.{Run}
use Rattle.brace_command.specs.Words.{said_run}
use Rattle.brace_command.proofs.AnswerLemmas.{stopped_serves, none_serves}
use Rattle.brace_command.proofs.preparing.ready_run.Goals as goal

pub returns-in_err-task-clause-prepared : goal.returns-in_err-task-clause-prepared
returns-in_err-task-clause-prepared g c =
    let p = err_from_is_err_and c.from_residual.result c.from_residual.ensures.1 in
    rw (p.1, p.2) (stopped_serves g.S.Shelf g.O.Sink (Run (said_run c.args.run.now)) _ _ _ _ c.in_err-task.ensures.ready)

pub returns-in_err-answer-clause-prepared : goal.returns-in_err-answer-clause-prepared
returns-in_err-answer-clause-prepared g c =
    let p = err_from_is_err_and c.from_residual-in_err-answer.result c.from_residual-in_err-answer.ensures.1 in
    rw (p.1, p.2) (none_serves g.S.Shelf g.O.Sink (Some (Run (said_run c.args.run.now))) _ _ _ _ _ c.in_ok-task.task c.in_ok-task.ensures.ready
    c.in_err-answer.ensures.written c.in_err-answer.ensures.work c.in_err-answer.ensures.writes c.in_err-answer.ensures.clean)

pub returns-then-job-clause-prepared : goal.returns-then-job-clause-prepared
returns-then-job-clause-prepared g c =
    none_serves g.S.Shelf g.O.Sink (Some (Run (said_run c.args.run.now))) _ _ _ _ _ c.in_ok-task.task c.in_ok-task.ensures.ready
    c.in_ok-answer.ensures.written c.in_ok-answer.ensures.work c.in_ok-answer.ensures.writes c.in_ok-answer.ensures.clean
