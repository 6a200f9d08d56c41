use Rattle.std.proofs.Common.{◌≡◌, ◌-◌}
use Rattle.brace_syntax.specs.inner.Descent.{members, members_from}
use Rattle.brace_syntax.proofs.class.members.Given as goal

abbrev pub invariant-loop-turn : goal.invariant-loop-turn
invariant-loop-turn l = members l.fn.tokens ≡ members_from (l._turn-end - l._turn) l.found l.tokens
