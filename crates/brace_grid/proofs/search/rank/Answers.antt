use Rattle.std.proofs.Common.{◌≡◌, ◌+◌, ◌-◌, ◌/◌, true, false, arith, to_z, of_z, w64}
use Rattle.brace_grid.specs.inner.Layout.{before}
use Rattle.brace_grid.proofs.Halving.{halve_up, halve_down, digits_half}
use Rattle.brace_grid.proofs.search.rank.Goals as goal

pub loop-low-preserved-then-is_before : goal.loop-low-preserved-then-is_before
loop-low-preserved-then-is_before g c =
    let low = c.loop-low.low in
    let high = c.loop-low.high in
    let middle = low + (high - low) / 2 in
    let is : before c.look.result.column c.look.result.row (to_z w64 (of_z w64 c.args.column)) (to_z w64 (of_z w64 c.args.row)) ≡ true = cc in (
      halve_up c.args.cells.now _ _ low middle high c.look.result c.requires c.loop-low.invariant.0 (omega arith) (omega arith) c.look.ensures.value is,
      omega (arith, c.loop-low.invariant.1, digits_half (high - (middle + 1)) (high - low) (omega arith) (omega arith)),
    )

pub loop-low-preserved : goal.loop-low-preserved
loop-low-preserved g c =
    let low = c.loop-low.low in
    let high = c.loop-low.high in
    let middle = low + (high - low) / 2 in
    let isnt : before c.look.result.column c.look.result.row (to_z w64 (of_z w64 c.args.column)) (to_z w64 (of_z w64 c.args.row)) ≡ false = cc in (
      halve_down c.args.cells.now _ _ low middle high c.look.result c.requires c.loop-low.invariant.0 (omega arith) (omega arith) c.look.ensures.value isnt,
      omega (arith, c.loop-low.invariant.1, digits_half (middle - low) (high - low) (omega arith) (omega arith)),
    )
