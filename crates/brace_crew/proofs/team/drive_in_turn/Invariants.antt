use Rattle.std.proofs.Common.{ℕ, ◌<◌, length, get_or}
use Rattle.brace_crew.specs.Benches.{OnBench}
use Rattle.brace_crew.specs.inner.Teams.{AreLater, StaysWithin}
use Rattle.brace_crew.proofs.team.drive_in_turn.Given as goal

abbrev pub invariant-loop : goal.invariant-loop
invariant-loop g l = record {
  same : AreLater l.initial.benches l.benches;
  within : (k : ℕ) (d : OnBench _) → k < length l.initial.benches
      → StaysWithin l.steps (get_or l.initial.benches k d) → StaysWithin l.steps (get_or l.benches k d);
}
