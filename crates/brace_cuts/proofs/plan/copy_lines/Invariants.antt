use Rattle.std.proofs.Common.{◌≡◌, take}
use Rattle.brace_cuts.proofs.plan.copy_lines.Given as goal

abbrev pub invariant-loop-line : goal.invariant-loop-line
invariant-loop-line l = l.copy ≡ take l.line-index l.lines
