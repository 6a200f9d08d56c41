use Rattle.std.proofs.Common.{◌≡◌}
use Rattle.brace_lanes.specs.Seats.{new_seats}
use Rattle.brace_lanes.proofs.lanes.Lanes.make.Given as goal

abbrev pub invariant-loop : goal.invariant-loop
invariant-loop g l = l.all.items ≡ new_seats l.lanes-inside.table.shared.table_id l.setting l.actors l.seats l.counter
