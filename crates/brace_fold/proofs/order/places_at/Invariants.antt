use Rattle.std.proofs.Common.{◌≡◌, ◌≤◌, ◌+◌, ◌-◌, Some, length, map, slice_get, take}
use Rattle.std.specs.Vec.{vec_len, vec_capacity}
use Rattle.brace_fold.proofs.order.places_at.Given as goal

abbrev pub invariant-loop-row : goal.invariant-loop-row
invariant-loop-row l = record {
  so_far : map (slice_get l.order) l.all.items ≡ map Some (take l.row-index l.rows);
  room : vec_len l.all + (length l.rows - l.row-index) ≤ vec_capacity l.all;
}
