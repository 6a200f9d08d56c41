use Rattle.std.proofs.Common.{◌≡◌, ◌+◌, ◌-◌}
use Rattle.brace_draw.proofs.Drawer.read.Given as goal

abbrev pub invariant-loop-self : goal.invariant-loop-self
invariant-loop-self l = record {
  seed : l.self.seed ≡ l.fn.self.seed;
  stream : l.self.rng.stream ≡ l.fn.self.rng.stream;
  from : l.self.from ≡ l.fn.self.from;
}

abbrev pub decreases-loop-self : goal.decreases-loop-self
decreases-loop-self l = l.i + 1 - l.self.kept
