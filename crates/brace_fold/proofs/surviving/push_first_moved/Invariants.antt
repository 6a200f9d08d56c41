use Rattle.std.proofs.Common.{◌≡◌, ◌≤◌, ◌+◌, ◌-◌, ◌++◌, map}
use Rattle.std.specs.Vec.{vec_len, vec_capacity}
use Rattle.std.specs.List.{range_with_len}
use Rattle.brace_fold.specs.inner.Rulings.{moved_at}
use Rattle.brace_fold.proofs.surviving.push_first_moved.Given as goal

abbrev pub invariant-loop-row : goal.invariant-loop-row
invariant-loop-row l = record {
  so_far : l.left.items ≡ l.fn.left.items
      ++ map (moved_at l.class l.old l.new) (range_with_len 0 l.row);
  room : vec_len l.left + (l.count - l.row) ≤ vec_capacity l.left;
}
