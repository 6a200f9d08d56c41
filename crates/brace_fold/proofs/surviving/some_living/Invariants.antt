use Rattle.std.proofs.Common.{◌≡◌}
use Rattle.brace_fold.specs.inner.Rulings.{rows_left}
use Rattle.brace_fold.proofs.surviving.some_living.Given as goal

abbrev pub invariant-loop-row : goal.invariant-loop-row
invariant-loop-row l = l.rows.items ≡ rows_left l.die l.row
