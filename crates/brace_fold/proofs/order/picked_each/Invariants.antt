use Rattle.std.proofs.Common.{◌≡◌, ◌≤◌, ◌+◌, ◌-◌, Some, length, map, slice_get, take}
use Rattle.std.specs.Vec.{vec_len, vec_capacity}
use Rattle.brace_fold.proofs.order.picked_each.Given as goal

abbrev pub invariant-loop-row : goal.invariant-loop-row
invariant-loop-row g l = record {
  so_far : map (slice_get l.column) (take l.row-index l.rows) ≡ map Some l.out.items;
  room : vec_len l.out + (length l.rows - l.row-index) ≤ vec_capacity l.out;
}
