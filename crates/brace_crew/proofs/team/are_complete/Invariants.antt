use Rattle.std.proofs.Common.{take}
use Rattle.std.specs.List.{All}
use Rattle.brace_crew.specs.inner.Teams.{HasCome, StaysWithin}
use Rattle.brace_crew.proofs.team.are_complete.Given as goal

abbrev pub invariant-loop-bench : goal.invariant-loop-bench
invariant-loop-bench g l = All (StaysWithin l.steps) l.benches → All (HasCome l.steps) (take l.bench-index l.benches)
