use Rattle.brace_syntax.proofs.ClassFound.{one_tree}
use Rattle.brace_syntax.proofs.laws.readings_are_unique.Goals as goal

pub returns : goal.returns
returns c = one_tree
