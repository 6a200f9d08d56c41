use Rattle.std.proofs.Common.{◌≡◌, ◌-◌, drop}
use Rattle.brace_cuts.specs.Space.{rises}
use Rattle.brace_cuts.proofs.space.rises.Given as goal

abbrev pub invariant-loop-i : goal.invariant-loop-i
invariant-loop-i l = rises l.fn.cuts ≡ rises (drop (l.i - 1) l.fn.cuts)
