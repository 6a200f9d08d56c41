use Rattle.std.proofs.Common.{◌≡◌, map, sum, take}
use Rattle.brace_model.specs.Query.{constants}
use Rattle.brace_plan.proofs.counting.+counting.Given as goal

abbrev pub invariant-constants_in-loop-s : goal.invariant-constants_in-loop-s
invariant-constants_in-loop-s l = l.count ≡ sum (map constants (take l.s-index l.block))
