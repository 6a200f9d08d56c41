use Rattle.std.proofs.Common.{◌+◌, ◌*◌, length}
use Rattle.brace_grid.specs.Grids.{digits}
use Rattle.brace_grid.proofs.Blocks.{IsGathered}
use Rattle.brace_grid.proofs.search.gather_block.Given as goal

abbrev pub invariant-loop-column : goal.invariant-loop-column
invariant-loop-column g l = IsGathered l.block l.area l.layout.spots (2 * (1 + digits (length l.layout.cells))) l.fn.out.items l.out.items l.fn.steps l.steps l.column
