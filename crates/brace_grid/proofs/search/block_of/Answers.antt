use Rattle.std.proofs.Common.{rules}
use Rattle.brace_grid.proofs.Numbers.{number_low}
use Rattle.brace_grid.proofs.search.block_of.Goals as goal

pub returns-clause-east : goal.returns-clause-east
returns-clause-east c = search (rules, number_low)

pub returns-clause-north : goal.returns-clause-north
returns-clause-north c = search (rules, number_low)
