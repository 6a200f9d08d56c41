use Rattle.std.proofs.Common.{◌≡◌, ◌++◌, flat_map, take}
use Rattle.brace_command.specs.PlanText.{loop_line}
use Rattle.brace_command.proofs.plan_text.add_loops.Given as goal

abbrev pub invariant-loop-l : goal.invariant-loop-l
invariant-loop-l l = l.out.items ≡ l.initial.out.items ++ flat_map (loop_line l.src l.program) (take l.l-index l.loops)
