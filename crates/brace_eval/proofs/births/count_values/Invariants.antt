use Rattle.std.proofs.Common.{◌≡◌, take, min, ◌^◌, ◌-◌}
use Rattle.brace_model.specs.Step.{count_values}
use Rattle.brace_eval.proofs.births.count_values.Given as goal

abbrev pub invariant-loop-a : goal.invariant-loop-a
invariant-loop-a l = l.count ≡ min (count_values (take l.a-index l.agents)) (2 ^ 64 - 1)
