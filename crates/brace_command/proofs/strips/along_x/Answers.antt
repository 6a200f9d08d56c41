use Rattle.brace_command.proofs.StripLemmas.{along_sorted}
use Rattle.brace_command.proofs.strips.along_x.Goals as goal

pub returns : goal.returns
returns c =
    along_sorted c.args.program.now c.args.agents.now c.in_ok-xs.xs.items c.sort_unstable.new.self.items c.in_ok-xs.ensures
    c.sort_unstable.ensures.permutation c.sort_unstable.ensures.sorted
