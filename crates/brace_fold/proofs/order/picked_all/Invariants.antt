use Rattle.std.proofs.Common.{take}
use Rattle.brace_fold.specs.Rows.{IsPicked}
use Rattle.brace_fold.specs.inner.Picks.{rows_along}
use Rattle.brace_fold.proofs.order.picked_all.Given as goal

abbrev pub invariant-loop-slice : goal.invariant-loop-slice
invariant-loop-slice g l =
    IsPicked (rows_along (take l.slice-index l.slices)) l.column l.out.items
