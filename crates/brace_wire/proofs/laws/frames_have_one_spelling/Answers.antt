use Rattle.brace_wire.proofs.StreamLemmas.{one_spelling}
use Rattle.brace_wire.proofs.laws.frames_have_one_spelling.Goals as goal

pub returns : goal.returns
returns c = λ types a b x y h g e. one_spelling types a b x y h g e
