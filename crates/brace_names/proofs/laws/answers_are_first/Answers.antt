use Rattle.brace_names.specs.Faults.{pass, place}
use Rattle.brace_names.proofs.FirstLemmas.{first_is_first}
use Rattle.brace_names.proofs.laws.answers_are_first.Goals as goal

pub returns : goal.returns
returns c all f h = first_is_first pass place all f h
