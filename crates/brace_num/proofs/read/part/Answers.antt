use Rattle.std.proofs.Common.{arith, rules}
use Rattle.brace_num.proofs.Readings.{part_none, part_small}
use Rattle.brace_num.proofs.read.part.Goals as goal

pub overflow_mul-result : goal.overflow_mul-result
overflow_mul-result c = grind (arith, rules, part_small, c.pow.ensures)

pub returns-in-None : goal.returns-in-None
returns-in-None c = grind (arith, rules, part_none)
