use Rattle.std.proofs.Common.{◌≡◌, ◌-◌, ◌+◌, ◌*◌}
use Rattle.brace_syntax.specs.inner.Descent.{expr, climb, joined, operand, joins}
use Rattle.brace_syntax.proofs.Levels.{rank}
use Rattle.brace_syntax.proofs.expr.Exprs.+levels.Given as goal

abbrev pub decreases-operand : goal.decreases-operand
decreases-operand g l = 2 * rank l.level

abbrev pub decreases-joined : goal.decreases-joined
decreases-joined g l = 2 * rank l.level + 1

abbrev pub invariant-joined-loop-turn : goal.invariant-joined-loop-turn
invariant-joined-loop-turn g l =
    joined (expr l.self.depth) l.level l.fn.tokens
    ≡ climb (expr l.self.depth) (joins l.level) (operand (expr l.self.depth) l.level) (l._turn-end - l._turn) l.left l.tokens
