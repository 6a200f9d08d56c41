use Rattle.std.proofs.Common.{◌≡◌, ◌++◌, take}
use Rattle.brace_plan.proofs.narrowing.join.Given as goal

abbrev pub invariant-loop-bound : goal.invariant-loop-bound
invariant-loop-bound l = l.bounds ≡ l.initial.bounds ++ take l.bound-index l.more
