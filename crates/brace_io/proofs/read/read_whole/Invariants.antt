use Rattle.std.proofs.Common.{◌≡◌, ◌≤◌, ◌-◌, ℕ, List, Some, length, take, vec_len}
use Rattle.brace_io.specs.Shelves.{held_at, Has, ReadsFrom}
use Rattle.brace_io.proofs.read.read_whole.Given as goal

abbrev pub invariant-file : goal.invariant-file
invariant-file g l = record {
  within : length l.bytes.items ≤ l.limit;
  chunk : vec_len l.chunk ≡ 65536;
  has : Has (g.S.Shelf.held l.fn.shelf) l.name;
  same : g.S.Shelf.held l.shelf ≡ g.S.Shelf.held l.fn.shelf;
  faults : g.S.Shelf.faults l.shelf ≡ g.S.Shelf.faults l.fn.shelf;
  reads : ReadsFrom (g.S.Shelf.held l.fn.shelf) (g.S.Shelf.stage l.shelf) l.name (length l.bytes.items);
  so_far : (file : List ℕ) → held_at (g.S.Shelf.held l.fn.shelf) l.name ≡ Some file → l.bytes.items ≡ take (length l.bytes.items) file;
  inside : (file : List ℕ) → held_at (g.S.Shelf.held l.fn.shelf) l.name ≡ Some file → length l.bytes.items ≤ length file;
}

abbrev pub decreases-file : goal.decreases-file
decreases-file g l = l.limit - length l.bytes.items
