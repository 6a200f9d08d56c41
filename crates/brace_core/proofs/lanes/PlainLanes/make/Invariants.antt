use Rattle.std.proofs.Common.{◌≡◌, replicate}
use Rattle.brace_core.specs.Lanes.{fresh}
use Rattle.brace_core.proofs.lanes.PlainLanes.make.Given as goal

abbrev pub invariant-loop : goal.invariant-loop
invariant-loop g l = l.lanes.items ≡ replicate l.counter fresh
