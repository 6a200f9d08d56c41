use Rattle.std.proofs.Common.{◌≡◌, ◌-◌}
use Rattle.brace_syntax.specs.inner.Descent.{block_to, braced, statements}
use Rattle.brace_syntax.proofs.stmt.Stmts.braced.Given as goal

abbrev pub invariant-loop-turn : goal.invariant-loop-turn
invariant-loop-turn g l = braced (block_to l.self.depth) l.fn.tokens ≡ statements (block_to l.self.depth) (l._turn-end - l._turn) l.found l.tokens
