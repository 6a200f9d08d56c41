use Rattle.brace_check.specs.Faults.{pass, rank}
use Rattle.brace_names.proofs.FirstLemmas.{first_is_first}
use Rattle.brace_check.proofs.laws.answers_are_first.Goals as goal

pub returns : goal.returns
returns c all f h = first_is_first pass rank all f h
