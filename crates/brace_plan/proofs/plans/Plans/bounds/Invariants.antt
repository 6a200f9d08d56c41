use Rattle.std.proofs.Common.{◌≡◌, drop}
use Rattle.brace_plan.specs.Narrowing.{loops_in, bounds_at}
use Rattle.brace_plan.proofs.plans.Plans.bounds.Given as goal

abbrev pub invariant-loop-l : goal.invariant-loop-l
invariant-loop-l l = bounds_at (loops_in l.self) l.offset ≡ bounds_at (drop l.l-index (loops_in l.self)) l.offset
