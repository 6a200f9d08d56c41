use Rattle.std.proofs.Common.{◌≡◌, ◌≤◌, ◌+◌, ◌-◌, length, map, take}
use Rattle.std.specs.Vec.{vec_len, vec_capacity}
use Rattle.brace_fold.proofs.cells.order_of.Given as goal

abbrev pub invariant-loop-spot : goal.invariant-loop-spot
invariant-loop-spot l = record {
  so_far : l.order.items ≡ map (λ s. s.place) (take l.spot-index l.spots);
  room : vec_len l.order + (length l.spots - l.spot-index) ≤ vec_capacity l.order;
}
