use Rattle.std.proofs.Common.{◌≡◌, ℤ, List, Some, map, slice_get, take}
use Rattle.brace_fold.specs.inner.Picks.{rows_picked}
use Rattle.brace_fold.proofs.order.picked_columns.Given as goal

abbrev pub invariant-loop-column : goal.invariant-loop-column
invariant-loop-column l =
    map (λ c. map (slice_get c.now) (rows_picked l.picks)) (take l.column-index l.columns)
    ≡ map (λ (out : List ℤ). map Some out) l.outs.items
