use Rattle.std.proofs.Common.{◌≡◌, replicate}
use Rattle.brace_model.specs.World.{no_value}
use Rattle.brace_plan.proofs.asking.open.Given as goal

abbrev pub invariant-loop : goal.invariant-loop
invariant-loop l = l.locals.items ≡ replicate l.counter no_value
