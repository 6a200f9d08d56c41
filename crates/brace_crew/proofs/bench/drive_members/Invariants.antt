use Rattle.std.proofs.Common.{◌≡◌, ◌+◌, ◌-◌, ◌*◌, ◌<◌, ◌≤◌}
use Rattle.std.specs.List.{All, sum_by}
use Rattle.brace_crew.specs.Members.{IsWithin}
use Rattle.brace_crew.specs.Benches.{AreWaiting}
use Rattle.brace_lanes.specs.Seats.{IsLater}
use Rattle.brace_crew.specs.inner.Driven.{AreCounted, AreSame, turns_left}
use Rattle.brace_crew.proofs.bench.drive_members.Given as goal

abbrev pub invariant-loop-idle : goal.invariant-loop-idle
invariant-loop-idle g l = record {
  counted : AreCounted l.end.seat.view l.members;
  same : AreSame l.initial.members l.members;
  later : IsLater l.initial.end.seat l.end.seat;
  lanes : l.end.lanes.now ≡ l.initial.end.lanes.now;
  few : l.idle ≤ l.patience;
  within : All (IsWithin l.steps) l.initial.members → All (IsWithin l.steps) l.members;
  waits : 0 < l.idle → AreWaiting l.steps l.initial.end.seat.view l.end.seat.view l.idle l.members;
}

-- a turn made outweighs all rounds that led nowhere
abbrev pub decreases-loop-idle : goal.decreases-loop-idle
decreases-loop-idle g l = sum_by turns_left l.members * (l.patience + 1) + (l.patience - l.idle)
