use Rattle.brace_eval.proofs.LawLemmas.{steps-numbered}
use Rattle.brace_eval.proofs.laws.steps_keep_worlds_numbered.Goals as goal

pub returns : goal.returns
returns c = record { numbered = steps-numbered }
