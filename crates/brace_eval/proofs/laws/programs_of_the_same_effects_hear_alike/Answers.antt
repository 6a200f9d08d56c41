use Rattle.brace_eval.proofs.HeardLemmas.{heard-alike}
use Rattle.brace_eval.proofs.laws.programs_of_the_same_effects_hear_alike.Goals as goal

pub returns : goal.returns
returns c = record { alike = heard-alike }
