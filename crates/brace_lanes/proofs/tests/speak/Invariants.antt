use Rattle.std.proofs.Common.{◌≡◌}
use Rattle.brace_lanes.specs.inner.Talk.{HasTalked}
use Rattle.brace_lanes.proofs.tests.speak.Given as goal

abbrev pub invariant-loop-step : goal.invariant-loop-step
invariant-loop-step l = (l.seat.lanes ≡ l.lanes) × HasTalked l.seat.view (record { steps = l.steps }) l.own l.other l.step l.step
