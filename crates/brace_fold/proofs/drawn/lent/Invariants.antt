use Rattle.std.proofs.Common.{◌≡◌, map, take}
use Rattle.brace_fold.specs.inner.Asks.{lent, made}
use Rattle.brace_fold.proofs.drawn.lent.Given as goal

abbrev pub invariant-loop-one : goal.invariant-loop-one
invariant-loop-one l = map lent l.draws.items ≡ map made (take l.one-index l.all)
