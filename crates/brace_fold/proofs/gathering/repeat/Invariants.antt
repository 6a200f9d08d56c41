use Rattle.std.proofs.Common.{◌≡◌, ◌≤◌, ◌+◌, ◌-◌, ◌*◌, ◌++◌}
use Rattle.std.specs.Prelude.{replicate}
use Rattle.std.specs.Vec.{vec_capacity, vec_len}
use Rattle.brace_fold.proofs.gathering.repeat.Given as goal

abbrev pub invariant-loop-four : goal.invariant-loop-four
invariant-loop-four l = record {
  most : l.four ≤ l.fours;
  this : l.this.items ≡ l.fn.this.items ++ replicate (4 * l.four) l.lane.this;
  place : l.place.items ≡ l.fn.place.items ++ replicate (4 * l.four) l.lane.place;
  room : vec_len l.this + 4 * (l.fours - l.four) ≤ vec_capacity l.this;
  room_place : vec_len l.place + 4 * (l.fours - l.four) ≤ vec_capacity l.place;
}
