use Rattle.std.proofs.Common.{◌≡◌, Some, refl, rules}
use Rattle.std.proofs.lemmas.Result.{err_from_is_err_and}
use Rattle.brace_command.specs.Settled.{keeper_call}
use Rattle.brace_top.proofs.CameLemmas.{has_come, task_run}
use Rattle.brace_top.proofs.TrialEnds.{came_as, trial_run, unflushed_run}
use Rattle.brace_top.proofs.flow.crew_on.Goals as goal

pub returns-clause-run : goal.returns-clause-run
returns-clause-run g c =
    task_run g.K.Keeper g.O.Sink c.args.task.now c.args.keeper.now c.keeper-1.given.0 c.args.out.now c.out-1.given.0 _ c.crew_run_on-both.result.0 c.crew_run_on-both.result.1 c.settle.result
    (has_come g.K.Keeper g.O.Sink c.settle.ensures c.crew_run_on-both.ensures.came refl refl c.as_slice.ensures.value refl refl
    c.flush.ensures.same c.flush.ensures.never_falls (search rules) (search rules))
    c.requires.task.lawful c.requires.task.begins (search rules) c.in_ok-flush.ensures.cleaned

pub returns-in_err-flush-clause-run : goal.returns-in_err-flush-clause-run
returns-in_err-flush-clause-run g c =
    let p = err_from_is_err_and c.from_residual.result c.from_residual.ensures.1 in
    rw (p.1, p.2) (unflushed_run g.O.Sink c.args.task.now (keeper_call g.K.Keeper c.args.keeper.now c.args.keeper.now) c.args.out.now c.flush.new.self refl refl
    c.in_err-flush.ensures.same c.in_err-flush.ensures.rose)

pub returns-in-Some-clause-run : goal.returns-in-Some-clause-run
returns-in-Some-clause-run g c =
    let is : c.args.task.now.trial ≡ Some c.in-Some.trial = search rules in
    trial_run g.O.Sink c.args.task.now c.in-Some.trial _ _ _ _ is refl refl
    (c.settle_trial.ensures.written c.args.task.now.setting c.make.result c.requires.task.begins (came_as _ _ _ _ _ _ c.sums.ensures c.crew_run_on-publisher.ensures.came))
    c.settle_trial.ensures.work c.settle_trial.ensures.writes c.settle_trial.ensures.clean
