use Rattle.brace_num.proofs.Spellings.{count_reads, int_reads, fixed_reads}
use Rattle.brace_num.proofs.laws.readings_are_spellings.Goals as goal

pub returns : goal.returns
returns c = record { counts = count_reads; ints = int_reads; fixed_numbers = fixed_reads }
