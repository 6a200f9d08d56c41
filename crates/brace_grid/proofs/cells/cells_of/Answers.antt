use Rattle.std.proofs.Common.{◌+◌, [], take, sym, subst, arith}
use Rattle.brace_grid.specs.inner.Layout.{AreCellsOf}
use Rattle.brace_grid.proofs.OneMore.{cells_step, cells_none}
use Rattle.brace_grid.proofs.cells.cells_of.Goals as goal

pub loop-i-init : goal.loop-i-init
loop-i-init c = subst (AreCellsOf []) (sym c.new-cells.ensures.items) cells_none

pub loop-i-preserved : goal.loop-i-preserved
loop-i-preserved c =
    subst (AreCellsOf (take (c.loop-i.i + 1) c.args.spots.now)) (sym c.in_ok-include.ensures)
    (cells_step c.args.spots.now c.loop-i.cells.items c.loop-i.i _ c.requires (omega arith) c.loop-i.invariant)
