use Rattle.std.proofs.Common.{◌≡◌, [], replicate}
use Rattle.brace_fold.proofs.crowd.unset.Given as goal

abbrev pub invariant-loop : goal.invariant-loop
invariant-loop l = l.locals.items ≡ replicate l.counter []
