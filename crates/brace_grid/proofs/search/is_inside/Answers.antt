use Rattle.std.proofs.Common.{rules}
use Rattle.brace_grid.proofs.Orders.{and_true}
use Rattle.brace_grid.proofs.search.is_inside.Goals as goal

pub returns-then-is_between : goal.returns-then-is_between
returns-then-is_between c = search (rules, and_true)
