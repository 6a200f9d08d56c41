use Rattle.std.proofs.Common.{◌≡◌, ◌≤◌, ◌+◌, length, map}
use Rattle.brace_save.specs.inner.Steps.{place}
use Rattle.brace_save.proofs.Classes.{Stand}
use Rattle.brace_save.proofs.read.read_classes.Given as goal

abbrev pub invariant-loop-class : goal.invariant-loop-class
invariant-loop-class l = record {
  at : l.i ≡ place l.fn.heading.tells_next + l.class-index;
  there : l.i ≤ length l.lines;
  stand : Stand l.fn.program l.fn.heading l.class-index (map (λ t. t.now) l.lines);
}
