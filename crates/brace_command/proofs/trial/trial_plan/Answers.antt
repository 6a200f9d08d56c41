use Rattle.std.proofs.Common.{rules, ◌≡◌}
use Rattle.brace_command.specs.Trials.{trial_plan}
use Rattle.brace_command.proofs.TrialLemmas.{lines_lawful}
use Rattle.brace_command.proofs.trial.trial_plan.Goals as goal

pub returns-clause-lawful : goal.returns-clause-lawful
returns-clause-lawful c =
    let lines : c.push-3.new.self ≡ (trial_plan c.args.epoch).lines = search rules in
    lines_lawful c.args.epoch c.push-3.new.self c.requires.some c.requires.few lines
