use Rattle.std.proofs.Common.{◌≡◌}
use Rattle.std.specs.List.{range_with_len}
use Rattle.brace_fold.specs.inner.Rulings.{rows_left}
use Rattle.brace_fold.proofs.surviving.all_live.Given as goal

abbrev pub invariant-loop-row : goal.invariant-loop-row
invariant-loop-row l = range_with_len 0 l.row ≡ rows_left l.die l.row
