use Rattle.std.proofs.Common.{◌≡◌, take}
use Rattle.brace_plan.specs.Narrowing.{loops_in}
use Rattle.brace_plan.proofs.plans.Plans.loops.Given as goal

abbrev pub invariant-loop-l : goal.invariant-loop-l
invariant-loop-l l = l.copy ≡ take l.l-index (loops_in l.self)
