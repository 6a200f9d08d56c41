use Rattle.std.proofs.Common.{◌≡◌, Err, rules}
use Rattle.brace_crew.specs.declared.crew.CrewFault.TheVariants as crew
use Rattle.brace_command.specs.Words.{said_trial}
use Rattle.brace_top.proofs.TrialEnds.{trial_told, trial_faulted, went_on, stopped_by}
use Rattle.brace_command.proofs.TrialLemmas.{written_for}
use Rattle.brace_top.proofs.flow.settle_trial.Goals as goal

pub returns-in-Ok-clause-written : goal.returns-in-Ok-clause-written
returns-in-Ok-clause-written g c s opening begins came =
    let run = went_on _ s _ _ _ c.in-Ok.counts c.in-Ok.is came in
    written_for _ _ _ _ _
    (trial_told (said_trial c.args.trial.now) s c.args.sums opening c.in-Ok.counts begins run.no_fault run.is_behind
    run.border run.effects run.moved run.handed)
    c.tell_trial.ensures.written

pub returns-in-Err-Fault-clause-written : goal.returns-in-Err-Fault-clause-written
returns-in-Err-Fault-clause-written g c s opening begins came =
    let trial = said_trial c.args.trial.now in
    let f = c.in-Err-Fault.fault in
    let is : c.args.came ≡ Err (crew.Fault f) = search rules in
    let run = stopped_by _ s _ _ _ f is came in
    written_for _ _ _ _ _ (trial_faulted trial s f run.is_first) (c.end_in_fault.ensures.written trial s)
