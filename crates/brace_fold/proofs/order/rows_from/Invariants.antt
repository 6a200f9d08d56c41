use Rattle.std.proofs.Common.{◌≡◌, ◌≤◌, ◌+◌, ◌-◌}
use Rattle.std.specs.Vec.{vec_len, vec_capacity}
use Rattle.std.specs.List.{range_with_len}
use Rattle.brace_fold.proofs.order.rows_from.Given as goal

abbrev pub invariant-loop-k : goal.invariant-loop-k
invariant-loop-k l = record {
  so_far : l.rows.items ≡ range_with_len l.first l.k;
  room : vec_len l.rows + (l.count - l.k) ≤ vec_capacity l.rows;
}
