use Rattle.brace_show.proofs.ScriptDepth.{canonical_is_shallow}
use Rattle.brace_show.proofs.laws.canonical_texts_are_no_deeper.Goals as goal

pub returns : goal.returns
returns c src toks tree spelled read shallow again spelled_again = canonical_is_shallow src toks tree spelled read shallow again spelled_again
