use Rattle.std.proofs.Common.{◌≡◌, ◌≤◌, ◌+◌, ◌-◌, ◌++◌, length, map, take}
use Rattle.std.specs.Vec.{vec_len, vec_capacity}
use Rattle.brace_fold.specs.inner.Rulings.{moved_at}
use Rattle.brace_fold.proofs.surviving.push_some_moved.Given as goal

abbrev pub invariant-loop-row : goal.invariant-loop-row
invariant-loop-row l = record {
  so_far : l.left.items ≡ l.fn.left.items
      ++ map (moved_at l.class l.old l.new) (take l.row-index l.rows);
  room : vec_len l.left + (length l.rows - l.row-index) ≤ vec_capacity l.left;
}
