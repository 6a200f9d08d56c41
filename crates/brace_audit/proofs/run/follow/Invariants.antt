use Rattle.std.proofs.Common.{◌≡◌, ◌-◌, unwrap_or}
use Rattle.brace_audit.specs.inner.Following.{Follows}
use Rattle.brace_audit.proofs.run.follow.Given as goal

abbrev pub invariant-loop-tick : goal.invariant-loop-tick
invariant-loop-tick g l = record {
  follows : Follows (g.S.Shelf.held l.shelf) (g.S.Shelf.stage l.shelf) l.name l.job l.tick (unwrap_or l.stepped l.job.start) l.comparer;
  same : g.S.Shelf.held l.shelf ≡ g.S.Shelf.held l.initial.shelf;
  faults : g.S.Shelf.faults l.shelf ≡ g.S.Shelf.faults l.initial.shelf;
}

abbrev pub decreases-loop-tick : goal.decreases-loop-tick
decreases-loop-tick g l = l.job.last - l.tick
