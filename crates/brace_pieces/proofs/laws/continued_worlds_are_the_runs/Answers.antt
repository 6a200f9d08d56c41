use Rattle.brace_pieces.proofs.WorldLemmas.{continued_is}
use Rattle.brace_pieces.proofs.laws.continued_worlds_are_the_runs.Goals as goal

pub returns : goal.returns
returns c = continued_is
