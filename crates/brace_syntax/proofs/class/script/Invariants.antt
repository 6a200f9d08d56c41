use Rattle.std.proofs.Common.{◌≡◌, ◌-◌}
use Rattle.brace_syntax.specs.inner.Cursor.{and_then, pure}
use Rattle.brace_syntax.specs.inner.Descent.{script, classes_from}
use Rattle.brace_syntax.proofs.class.script.Given as goal

abbrev pub invariant-loop-turn : goal.invariant-loop-turn
invariant-loop-turn l = script l.fn.tokens ≡ and_then (classes_from (l._turn-end - l._turn) l.classes l.tokens) (λ all. pure (record { classes = all }))
