use Rattle.brace_pieces.proofs.MoveLemmas.{none_moved}
use Rattle.brace_pieces.proofs.LivedLemmas.{moved_lived}
use Rattle.brace_pieces.proofs.laws.moves_are_of_the_living.Goals as goal

pub returns : goal.returns
returns c = record {
  apart = λ s t p q world lawful part up whole after other none. none_moved s lawful t p part world up whole after q other none;
  lived = λ s t p q world lawful good whole. moved_lived s lawful t world good whole p q;
}
