use Rattle.std.proofs.Common.{◌≡◌, ◌++◌, take}
use Rattle.brace_plan.specs.Planning.{told_by}
use Rattle.brace_plan.proofs.loops.+telling.Given as goal

abbrev pub invariant-tell_all-loop-action : goal.invariant-tell_all-loop-action
invariant-tell_all-loop-action l = l.loops ≡ l.initial.loops ++ told_by (take l.action-index l.actions)
