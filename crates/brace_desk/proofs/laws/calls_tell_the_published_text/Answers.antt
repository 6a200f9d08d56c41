use Rattle.brace_desk.proofs.TextLemmas.{all_told, all_saved}
use Rattle.brace_desk.proofs.laws.calls_tell_the_published_text.Goals as goal

pub returns : goal.returns
returns c = record {
  text = all_told;
  saved = all_saved;
}
