use Rattle.std.proofs.Common.{◌≡◌, ℕ, ◌+◌, ◌<◌, pos, get_or}
use Rattle.brace_balance.proofs.stack.least_stack.Given as goal

abbrev pub invariant-loop-i : goal.invariant-loop-i
invariant-loop-i l = (j : ℕ) → j < l.i → get_or l.xs (j + l.others) (pos 0) ≡ get_or l.xs j (pos 0) → ⊥
