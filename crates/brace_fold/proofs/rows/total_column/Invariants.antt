use Rattle.std.proofs.Common.{◌≡◌, pos, map, take, slice_index_or}
use Rattle.brace_fold.proofs.rows.total_column.Given as goal

abbrev pub invariant-loop-row : goal.invariant-loop-row
invariant-loop-row l = l.words.items ≡ map (λ r. slice_index_or r.now l.effect (pos 0)) (take l.row-index l.rows)
