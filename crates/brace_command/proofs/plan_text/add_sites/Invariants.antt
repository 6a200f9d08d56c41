use Rattle.std.proofs.Common.{◌≡◌, ◌++◌, flat_map}
use Rattle.std.specs.List.{range_with_len}
use Rattle.brace_command.specs.PlanText.{site_line}
use Rattle.brace_command.proofs.plan_text.add_sites.Given as goal

abbrev pub invariant-loop-number : goal.invariant-loop-number
invariant-loop-number l = l.out.items ≡ l.initial.out.items ++ flat_map (site_line l.src l.sites) (range_with_len 0 l.number)
