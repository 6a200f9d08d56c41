use Rattle.std.proofs.Common.{◌≡◌, ◌≤◌, ◌<◌, ◌+◌, ◌-◌, ℕ, length, map, take, get_or, w32}
use Rattle.std.specs.Int.{int_wrap}
use Rattle.std.specs.Vec.{vec_len, vec_capacity}
use Rattle.brace_fold.specs.declared.cells.Spot.{Spot}
use Rattle.brace_fold.specs.inner.Sights.{IsLow}
use Rattle.brace_fold.proofs.halves.Halves.of.Given as goal

abbrev pub invariant-loop-spot : goal.invariant-loop-spot
invariant-loop-spot l = record {
  across : l.xs.items ≡ map (λ s. int_wrap w32 s.x) (take l.spot-index l.spots);
  along : l.ys.items ≡ map (λ s. int_wrap w32 s.y) (take l.spot-index l.spots);
  low : (k : ℕ) (d : Spot) → k < l.spot-index → IsLow l.fn.side (get_or l.spots k d).y;
  room_across : vec_len l.xs + (length l.spots - l.spot-index) ≤ vec_capacity l.xs;
  room_along : vec_len l.ys + (length l.spots - l.spot-index) ≤ vec_capacity l.ys;
}
