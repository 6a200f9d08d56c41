use Rattle.brace_syntax.proofs.Unfit.{one_place}
use Rattle.brace_syntax.proofs.laws.places_are_unique.Goals as goal

pub returns : goal.returns
returns c = one_place
