use Rattle.std.proofs.Common.{◌∙◌, ◌-◌, sym, arith}
use Rattle.brace_balance.proofs.Neighbours.{sorted_at_end}
use Rattle.brace_balance.proofs.tests.never_falls.Goals as goal

pub returns : goal.returns
returns c = sym (c.loop-i.invariant ∙ sorted_at_end c.args.xs.now (c.loop-i.i - 1) (omega arith))
