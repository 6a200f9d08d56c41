use Rattle.std.specs.List.{All}
use Rattle.brace_crew.specs.inner.Teams.{AreLater, StaysWithin}
use Rattle.brace_crew.proofs.team.drive_to.Given as goal

abbrev pub invariant-loop : goal.invariant-loop
invariant-loop g l = record {
  same : AreLater l.initial.benches l.benches;
  within : All (StaysWithin l.steps) l.benches;
}
