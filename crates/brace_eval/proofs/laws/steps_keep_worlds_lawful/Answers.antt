use Rattle.brace_eval.proofs.LawfulLemmas.{steps-lawful}
use Rattle.brace_eval.proofs.laws.steps_keep_worlds_lawful.Goals as goal

pub returns : goal.returns
returns c = record { lawful = steps-lawful }
