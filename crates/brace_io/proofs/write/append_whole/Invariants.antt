use Rattle.std.proofs.Common.{◌≤◌, ◌-◌, length, take}
use Rattle.brace_io.specs.Shelves.{Holds, WritesTo, OnlyAt}
use Rattle.brace_io.proofs.write.append_whole.Given as goal

abbrev pub invariant-loop-done : goal.invariant-loop-done
invariant-loop-done g l = record {
  within : l.done ≤ length l.piece;
  writes : WritesTo (g.S.Shelf.held l.shelf) (g.S.Shelf.stage l.shelf) l.name;
  so_far : Holds (g.S.Shelf.held l.shelf) l.name (take l.done l.piece);
  only : OnlyAt (g.S.Shelf.held l.initial.shelf) (g.S.Shelf.held l.shelf) l.name;
  faults : g.S.Shelf.faults l.initial.shelf ≤ g.S.Shelf.faults l.shelf;
}

abbrev pub decreases-loop-done : goal.decreases-loop-done
decreases-loop-done g l = length l.piece - l.done
