use Rattle.std.proofs.Common.{◌≡◌, ℕ}
use Rattle.brace_lanes.specs.Seats.{IsSameSeat, puts_of, takes_of}
use Rattle.brace_lanes.proofs.tests.hear.Given as goal

abbrev pub invariant-loop-looks : goal.invariant-loop-looks
invariant-loop-looks l = (l.seat.lanes ≡ l.lanes) × IsSameSeat l.initial.seat.view l.seat.view
    × ((p q : ℕ) → puts_of l.seat.view p q ≡ puts_of l.initial.seat.view p q)
    × ((p q : ℕ) → takes_of l.seat.view p q ≡ takes_of l.initial.seat.view p q)

abbrev pub decreases-loop-looks : goal.decreases-loop-looks
decreases-loop-looks l = l.looks
