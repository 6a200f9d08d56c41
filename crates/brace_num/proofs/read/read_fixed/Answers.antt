use Rattle.brace_num.proofs.Spellings.{fixed_read}
use Rattle.brace_num.proofs.read.read_fixed.Goals as goal

pub returns-clause-spelled : goal.returns-clause-spelled
returns-clause-spelled c = fixed_read _ _ c.signed_fixed.ensures
