use Rattle.brace_pieces.proofs.ToldLemmas.{query_told, update_told, birth_told, right_later}
use Rattle.brace_pieces.proofs.laws.found_faults_may_be_told.Goals as goal

pub returns : goal.returns
returns c = record {
  queries = λ s t p number f lawful. query_told s lawful t p number f;
  updates = λ s t p number f lawful. update_told s lawful t p number f;
  births = birth_told;
  later = right_later;
}
