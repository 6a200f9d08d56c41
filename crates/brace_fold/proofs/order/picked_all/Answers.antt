use Rattle.std.proofs.Common.{get_or, take}
use Rattle.std.proofs.lemmas.List.{get_or_default}
use Rattle.brace_fold.specs.declared.order.Slice.{Slice}
use Rattle.brace_fold.specs.inner.Picks.{rows_along}
use Rattle.brace_fold.proofs.Pickings.{along-picked}
use Rattle.brace_fold.proofs.order.picked_all.Goals as goal

pub loop-slice-preserved : goal.loop-slice-preserved
loop-slice-preserved g c =
    let k = c.loop-slice.slice-index in
    let slices = c.args.slices.now in
    let none : Slice = record { from = 0; to = 0 } in
    let low = c.loop-slice-test.true in
    along-picked c.args.column.now _ slices k (get_or slices k none) low
    (get_or_default slices k none (get_or slices k none) low)
    (c.in_ok-push_between.ensures (rows_along (take k slices)) c.loop-slice.invariant)
