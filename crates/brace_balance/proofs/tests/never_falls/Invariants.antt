use Rattle.std.proofs.Common.{◌≡◌, ◌-◌, drop}
use Rattle.brace_balance.specs.Loads.{never_falls}
use Rattle.brace_balance.proofs.tests.never_falls.Given as goal

abbrev pub invariant-loop-i : goal.invariant-loop-i
invariant-loop-i l = never_falls l.fn.xs ≡ never_falls (drop (l.i - 1) l.fn.xs)
