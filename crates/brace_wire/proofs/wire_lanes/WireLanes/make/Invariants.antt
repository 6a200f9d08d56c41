use Rattle.std.proofs.Common.{◌≡◌, replicate}
use Rattle.brace_wire.specs.Links.{fresh}
use Rattle.brace_wire.proofs.wire_lanes.WireLanes.make.Given as goal

abbrev pub invariant-loop : goal.invariant-loop
invariant-loop l = l.links.items ≡ replicate l.counter fresh
