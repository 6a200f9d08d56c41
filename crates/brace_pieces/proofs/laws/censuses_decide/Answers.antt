use Rattle.std.proofs.Common.{sym}
use Rattle.brace_pieces.proofs.CensusLemmas.{all_is, all_bear, faults_told, born_by_rank, next_by_rank}
use Rattle.brace_pieces.proofs.laws.censuses_decide.Goals as goal

pub returns : goal.returns
returns c = record {
  all = λ s t p world all h. all_is s t p world all h;
  faults = λ s t p world all h. sym (faults_told s t p world all h);
  none = λ s t world all none. all_bear s.job.program world.next t all none;
  born = λ s t p world all own h. sym (born_by_rank s t p world all h own);
  next = λ s t p world all h. sym (next_by_rank s t p world all h);
}
