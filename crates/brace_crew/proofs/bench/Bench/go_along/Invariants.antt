use Rattle.brace_crew.specs.Benches.{IsSameBench}
use Rattle.brace_crew.specs.inner.Teams.{StaysWithin}
use Rattle.brace_crew.proofs.bench.Bench.go_along.Given as goal

abbrev pub invariant-loop : goal.invariant-loop
invariant-loop g l = record {
  same : IsSameBench l.fn.self l.self;
  within : StaysWithin l.steps l.fn.self → StaysWithin l.steps l.self;
}
