use Rattle.std.proofs.Common.{◌∙◌, ◌-◌, sym, arith}
use Rattle.brace_cuts.proofs.Strips.{rises_at_end}
use Rattle.brace_cuts.proofs.space.rises.Goals as goal

pub returns : goal.returns
returns c = sym (c.loop-i.invariant ∙ rises_at_end c.args.cuts.now (c.loop-i.i - 1) (omega arith))
