use Rattle.std.proofs.Common.{◌≡◌, ◌≤◌, ◌+◌, ◌-◌, length, map, slice_index_or, take}
use Rattle.std.specs.Vec.{vec_len, vec_capacity}
use Rattle.brace_model.specs.Total.{identity}
use Rattle.brace_fold.specs.Sums.{no_sum, total_in}
use Rattle.brace_fold.proofs.telling.total_column.Given as goal

abbrev pub invariant-loop-row : goal.invariant-loop-row
invariant-loop-row l = record {
  so_far : l.words.items ≡ map (λ row. total_in (identity l.fn.comb)
      (slice_index_or l.sums row no_sum)) (take l.row-index l.rows);
  room : vec_len l.words + (length l.rows - l.row-index) ≤ vec_capacity l.words;
}
