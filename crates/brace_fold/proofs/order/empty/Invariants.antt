use Rattle.std.proofs.Common.{◌≡◌, [], replicate}
use Rattle.brace_fold.proofs.order.empty.Given as goal

abbrev pub invariant-loop : goal.invariant-loop
invariant-loop l = l.all.items ≡ replicate l.counter []
