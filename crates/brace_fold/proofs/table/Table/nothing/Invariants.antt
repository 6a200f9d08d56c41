use Rattle.std.proofs.Common.{◌≡◌, replicate}
use Rattle.brace_fold.specs.Sums.{no_sum}
use Rattle.brace_fold.proofs.table.Table.nothing.Given as goal

abbrev pub invariant-loop : goal.invariant-loop
invariant-loop l = l.sums.items ≡ replicate l.counter (replicate l.rows no_sum)
