use Rattle.brace_save.proofs.Sizes.{text_short}
use Rattle.brace_save.proofs.laws.checkpoints_are_short.Goals as goal

pub returns : goal.returns
returns c program moment bytes lawful is = text_short program moment bytes lawful is
