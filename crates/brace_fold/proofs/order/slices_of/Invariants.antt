use Rattle.std.proofs.Common.{◌≡◌, ◌≤◌, ◌-◌, ◌++◌, take}
use Rattle.std.specs.List.{range_with_len}
use Rattle.brace_fold.specs.inner.Picks.{rows_along}
use Rattle.brace_fold.proofs.order.slices_of.Given as goal

abbrev pub invariant-loop-row : goal.invariant-loop-row
invariant-loop-row l = record {
  so_far : rows_along l.all.items ++ range_with_len l.from (l.to - l.from)
      ≡ take l.row-index l.rows;
  turn : l.from ≤ l.to;
}
