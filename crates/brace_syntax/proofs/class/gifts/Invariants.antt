use Rattle.std.proofs.Common.{◌≡◌, ◌-◌}
use Rattle.brace_syntax.specs.inner.Descent.{gifts, gifts_from}
use Rattle.brace_syntax.proofs.class.gifts.Given as goal

abbrev pub invariant-loop-turn : goal.invariant-loop-turn
invariant-loop-turn l = gifts l.fn.tokens ≡ gifts_from (l._turn-end - l._turn) l.found l.tokens
