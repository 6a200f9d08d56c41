use Rattle.brace_show.proofs.ReadBack.{canonical_reads_back}
use Rattle.brace_show.proofs.laws.canonical_texts_are_read_back.Goals as goal

pub returns : goal.returns
returns c src toks tree spelled read = canonical_reads_back src toks tree spelled read
