use Rattle.std.proofs.Common.{◌≡◌, drop, ◌+◌}
use Rattle.brace_check.specs.Programs.{place_of}
use Rattle.brace_check.proofs.program.place_of.Given as goal

abbrev pub invariant-loop-state : goal.invariant-loop-state
invariant-loop-state l = l.place + place_of l.name (drop l.state-index l.states) ≡ place_of l.name l.states
