use Rattle.std.proofs.Common.{rules}
use Rattle.rand_chacha.proofs.LaneLemmas.{below_four}
use Rattle.brace_draw.proofs.lanes.initial_states.Goals as goal

pub returns : goal.returns
returns c = below_four _ (search rules) (search rules) (search rules) (search rules)
