use Rattle.std.proofs.Common.{refl}
use Rattle.std.specs.Prelude.{codes, Ok}
use Rattle.brace_command.specs.declared.trial.TheConstants.{TRIAL_SCRIPT}
use Rattle.brace_command.specs.Outcome.{stands_for}
use Rattle.brace_command.specs.Scripts.{Means, Refuses}
use Rattle.brace_command.proofs.AnswerLemmas.{script_unloads, script_unread}
use Rattle.brace_command.proofs.load.load_trial.Goals as goal

pub returns-in-Ok-clause-loads : goal.returns-in-Ok-clause-loads
returns-in-Ok-clause-loads c shelf same = record {
  found = λ files told. stands_for TRIAL_SCRIPT.now _ refl c.in-Ok.ensures.read;
  counts = same;
}

pub returns-in-Err-clause-loads : goal.returns-in-Err-clause-loads
returns-in-Err-clause-loads c shelf same =
    script_unloads Means Refuses (λ files. Ok TRIAL_SCRIPT.now) (codes "trial") TRIAL_SCRIPT.now shelf _ _ same (λ files told. refl) c.in-Err.ensures.refused c.refuse_script.ensures

pub returns-in-Err-clause-unread : goal.returns-in-Err-clause-unread
returns-in-Err-clause-unread c = script_unread (codes "trial") TRIAL_SCRIPT.now _ _ c.refuse_script.ensures
