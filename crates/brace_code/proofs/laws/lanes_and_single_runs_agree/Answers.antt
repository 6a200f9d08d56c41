use Rattle.brace_code.proofs.LawLemmas.{agreed}
use Rattle.brace_code.proofs.laws.lanes_and_single_runs_agree.Goals as goal

pub returns : goal.returns
returns c = record { agree = agreed }
