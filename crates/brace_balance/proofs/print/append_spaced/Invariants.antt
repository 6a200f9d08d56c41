use Rattle.std.proofs.Common.{◌≡◌, ◌++◌, take}
use Rattle.brace_balance.specs.Texts.{spaced}
use Rattle.brace_balance.proofs.print.append_spaced.Given as goal

abbrev pub invariant-loop-v : goal.invariant-loop-v
invariant-loop-v l = l.out.items ≡ l.fn.out.items ++ spaced (take l.v-index l.numbers)
