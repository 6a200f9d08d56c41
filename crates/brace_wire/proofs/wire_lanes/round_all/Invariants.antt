use Rattle.std.proofs.Common.{◌≡◌, ◌++◌, map, take, drop}
use Rattle.brace_wire.specs.Links.{after_round}
use Rattle.brace_wire.proofs.wire_lanes.round_all.Given as goal

-- a round was made on the first
abbrev pub invariant-loop-i : goal.invariant-loop-i
invariant-loop-i l =
    (l.links.items ≡ map (after_round l.fates) (take l.i l.initial.links.items) ++ drop l.i l.initial.links.items)
    × (l.carrier.decoder.types ≡ l.initial.carrier.decoder.types)
