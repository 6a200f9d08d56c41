use Rattle.brace_num.proofs.Canonical.{count_printed, int_printed, fixed_printed}
use Rattle.brace_num.proofs.laws.canonical_spellings_spell.Goals as goal

pub returns : goal.returns
returns c = record { counts = count_printed; ints = int_printed; fixed_numbers = fixed_printed }
