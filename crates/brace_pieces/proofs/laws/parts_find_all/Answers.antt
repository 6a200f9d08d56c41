use Rattle.brace_pieces.proofs.FoundLemmas.{found_by_part, run_reaches, first_not_before, first_within, first_found, before_first}
use Rattle.brace_pieces.proofs.laws.parts_find_all.Goals as goal

pub returns : goal.returns
returns c = record {
  found = λ s t phase f lawful numbers. found_by_part s lawful numbers t phase f;
  reached = λ s k lawful numbers low high none. run_reaches s lawful numbers k low none;
  first = λ s g lawful first. (first_not_before s lawful g first, first_within s lawful g first, first_found s lawful g first);
  before = λ s g t lawful first low high. before_first s lawful g first t low high;
}
