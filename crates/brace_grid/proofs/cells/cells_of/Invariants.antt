use Rattle.std.proofs.Common.{take}
use Rattle.brace_grid.specs.inner.Layout.{AreCellsOf}
use Rattle.brace_grid.proofs.cells.cells_of.Given as goal

abbrev pub invariant-loop-i : goal.invariant-loop-i
invariant-loop-i l = AreCellsOf (take l.i l.spots) l.cells.items
