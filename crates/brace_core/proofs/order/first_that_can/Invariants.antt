use Rattle.std.proofs.Common.{◌≡◌, ◌+◌, ◌%◌, ◌<◌, ℕ, map, false}
use Rattle.brace_core.specs.Schedule.{front}
use Rattle.brace_core.specs.inner.Turns.{can_go_on}
use Rattle.brace_core.proofs.order.first_that_can.Given as goal

abbrev pub invariant-loop-i : goal.invariant-loop-i
invariant-loop-i g l = (k : ℕ) → k < l.i →
    can_go_on (front (g.F.Freight.schedule l.lanes.setting) l.end) l.lanes (map g.A.Actor.past l.actors) ((l.drawn + k) % l.lanes.actors) ≡ false
