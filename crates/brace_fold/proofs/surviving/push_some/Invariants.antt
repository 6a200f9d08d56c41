use Rattle.std.proofs.Common.{◌≡◌, ◌≤◌, ◌+◌, ◌-◌, ◌++◌, length, map, slice_index_or, take}
use Rattle.std.specs.Vec.{vec_len, vec_capacity}
use Rattle.brace_fold.proofs.surviving.push_some.Given as goal

abbrev pub invariant-loop-row : goal.invariant-loop-row
invariant-loop-row g l = record {
  so_far : l.left.items ≡ l.fn.left.items
      ++ map (λ row. slice_index_or l.column row l.default) (take l.row-index l.rows);
  room : vec_len l.left + (length l.rows - l.row-index) ≤ vec_capacity l.left;
}
