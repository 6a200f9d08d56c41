use Rattle.std.proofs.Common.{◌≡◌, ◌++◌, flat_map, take}
use Rattle.brace_command.specs.PlanText.{class_line}
use Rattle.brace_command.proofs.plan_text.add_classes.Given as goal

abbrev pub invariant-loop-class : goal.invariant-loop-class
invariant-loop-class l = l.out.items ≡ l.initial.out.items ++ flat_map class_line (take l.class-index l.classes)
