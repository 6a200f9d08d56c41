-- Rows that are picked from columns. Only the crate's own functions cite this.
use Rattle.std.specs.Prelude.{ℕ, ◌-◌, List, flat_map}
use Rattle.std.specs.List.{range_with_len}
use Rattle.brace_fold.specs.declared.order.Picks.{Picks}
use Rattle.brace_fold.specs.declared.order.Picks.TheVariants.{Each, Slices}
use Rattle.brace_fold.specs.declared.order.Slice.{Slice}

-- the rows of a slice
abbrev pub rows_between : Slice → List ℕ
rows_between slice = range_with_len slice.from (slice.to - slice.from)

-- the rows of slices, one after the other
abbrev pub rows_along : List Slice → List ℕ
rows_along slices = flat_map rows_between slices

-- the rows that are picked
abbrev pub rows_picked : Picks → List ℕ
rows_picked (Each rows) = rows.now
rows_picked (Slices all count) = rows_along all.items
