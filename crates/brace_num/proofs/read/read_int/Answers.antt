use Rattle.brace_num.proofs.Spellings.{int_read}
use Rattle.brace_num.proofs.read.read_int.Goals as goal

pub returns-clause-spelled : goal.returns-clause-spelled
returns-clause-spelled c = int_read _ _ c.signed_int.ensures
