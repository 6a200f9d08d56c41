use Rattle.std.proofs.Common.{◌≡◌, ◌-◌, drop}
use Rattle.brace_balance.specs.Loads.{posts_hold}
use Rattle.brace_balance.proofs.confirm.posts_hold.Given as goal

abbrev pub invariant-loop-i : goal.invariant-loop-i
invariant-loop-i l = posts_hold l.n l.xs l.fn.posts ≡ posts_hold l.n l.xs (drop (l.i - 1) l.fn.posts)
