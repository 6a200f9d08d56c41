use Rattle.brace_num.proofs.Spellings.{count_read}
use Rattle.brace_num.proofs.read.read_count.Goals as goal

pub returns-clause-spelled : goal.returns-clause-spelled
returns-clause-spelled c = count_read _ _ c.unsigned.ensures
