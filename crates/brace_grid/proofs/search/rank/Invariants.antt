use Rattle.std.proofs.Common.{◌+◌, ◌-◌, ◌≤◌, length}
use Rattle.brace_grid.specs.Grids.{digits}
use Rattle.brace_grid.proofs.Halving.{IsHalved}
use Rattle.brace_grid.proofs.search.rank.Given as goal

abbrev pub invariant-loop-low : goal.invariant-loop-low
invariant-loop-low g l = IsHalved l.cells l.column l.row l.low l.high × (l.steps + digits (l.high - l.low) ≤ l.fn.steps + digits (length l.cells))

abbrev pub decreases-loop-low : goal.decreases-loop-low
decreases-loop-low g l = l.high - l.low
