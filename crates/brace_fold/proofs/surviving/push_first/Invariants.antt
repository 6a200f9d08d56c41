use Rattle.std.proofs.Common.{◌≡◌, ◌≤◌, ◌+◌, ◌-◌, ◌++◌, map, slice_index_or}
use Rattle.std.specs.Vec.{vec_len, vec_capacity}
use Rattle.std.specs.List.{range_with_len}
use Rattle.brace_fold.proofs.surviving.push_first.Given as goal

abbrev pub invariant-loop-row : goal.invariant-loop-row
invariant-loop-row g l = record {
  so_far : l.left.items ≡ l.fn.left.items
      ++ map (λ row. slice_index_or l.column row l.default) (range_with_len 0 l.row);
  room : vec_len l.left + (l.count - l.row) ≤ vec_capacity l.left;
}
