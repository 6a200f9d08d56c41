use Rattle.brace_show.proofs.ReadBack.{shown_again}
use Rattle.brace_show.proofs.laws.canonical_texts_stay.Goals as goal

pub returns : goal.returns
returns c src toks tree spelled read again back spelled_again read_again = shown_again src toks tree spelled read again back spelled_again read_again
