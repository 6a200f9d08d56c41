use Rattle.brace_model.proofs.TypeLemmas.{sound}
use Rattle.brace_eval.proofs.laws.values_are_of_their_types.Goals as goal

pub returns : goal.returns
returns c = record { typed = λ names scope e t v fits typed came. sound e names scope fits t typed v came }
