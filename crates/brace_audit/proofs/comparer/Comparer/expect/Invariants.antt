use Rattle.std.proofs.Common.{◌≡◌, ◌≤◌, ◌-◌, length, take}
use Rattle.brace_audit.specs.inner.Reading.{Comparing, GoesOn}
use Rattle.brace_audit.proofs.comparer.Comparer.expect.Given as goal

abbrev pub invariant-loop-done : goal.invariant-loop-done
invariant-loop-done g l = record {
  within : l.done ≤ length l.piece;
  comparing : Comparing (g.S.Shelf.held l.shelf) (g.S.Shelf.stage l.shelf) l.name l.self;
  goes_on : GoesOn (g.S.Shelf.held l.initial.shelf) (g.S.Shelf.stage l.initial.shelf) l.initial.self (g.S.Shelf.held l.shelf) (g.S.Shelf.stage l.shelf) l.self l.name (take l.done l.piece);
  same : g.S.Shelf.held l.shelf ≡ g.S.Shelf.held l.initial.shelf;
  faults : g.S.Shelf.faults l.shelf ≡ g.S.Shelf.faults l.initial.shelf;
}

abbrev pub decreases-loop-done : goal.decreases-loop-done
decreases-loop-done g l = length l.piece - l.done
