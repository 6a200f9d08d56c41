use Rattle.brace_pieces.proofs.HaltLemmas.{halt_follows}
use Rattle.brace_pieces.proofs.laws.halt_law.Goals as goal

pub returns : goal.returns
returns c = halt_follows
