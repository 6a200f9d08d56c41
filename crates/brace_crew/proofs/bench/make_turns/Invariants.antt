use Rattle.std.proofs.Common.{◌≡◌, ◌≤◌, length}
use Rattle.std.specs.List.{All}
use Rattle.brace_lanes.specs.Seats.{IsLater}
use Rattle.brace_crew.specs.Members.{IsWithin}
use Rattle.brace_crew.specs.inner.Driven.{AreCounted, AreSame, WentAll}
use Rattle.brace_crew.proofs.bench.make_turns.Given as goal

abbrev pub invariant-loop-i : goal.invariant-loop-i
invariant-loop-i g l = record {
  counted : AreCounted l.end.seat.view l.members;
  same : AreSame l.initial.members l.members;
  later : IsLater l.initial.end.seat l.end.seat;
  lanes : l.end.lanes.now ≡ l.initial.end.lanes.now;
  few : l.i ≤ length l.initial.members;
  within : All (IsWithin l.steps) l.initial.members → All (IsWithin l.steps) l.members;
  went : WentAll l.steps l.initial.end.seat.view l.initial.members l.end.seat.view l.members l.i l.all;
}
