use Rattle.std.proofs.Common.{◌≡◌, ◌++◌, flat_map, take}
use Rattle.brace_command.specs.PlanText.{remote_line}
use Rattle.brace_command.proofs.plan_text.add_remotes.Given as goal

abbrev pub invariant-loop-remote : goal.invariant-loop-remote
invariant-loop-remote l = l.out.items ≡ l.initial.out.items ++ flat_map (remote_line l.src l.program l.invert) (take l.remote-index l.remotes)
