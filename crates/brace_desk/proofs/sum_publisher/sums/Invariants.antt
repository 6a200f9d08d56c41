use Rattle.std.proofs.Common.{◌≡◌, ◌≤◌, ◌*◌, ◌^◌, take, unsigned_abs}
use Rattle.brace_model.specs.World.{x_of, y_of}
use Rattle.brace_desk.specs.Sums.{place_along, sum_of}
use Rattle.brace_desk.proofs.sum_publisher.sums.Given as goal

abbrev pub invariant-loop-at : goal.invariant-loop-at
invariant-loop-at l = record {
  x : l.along_x ≡ sum_of (place_along x_of l.program) (take l.at l.agents);
  y : l.along_y ≡ sum_of (place_along y_of l.program) (take l.at l.agents);
  bound_x : unsigned_abs l.along_x ≤ 2 ^ 63 * l.at;
  bound_y : unsigned_abs l.along_y ≤ 2 ^ 63 * l.at;
}
