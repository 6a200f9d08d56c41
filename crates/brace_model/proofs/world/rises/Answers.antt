use Rattle.std.proofs.Common.{◌<◌, ◌-◌, get_or, arith}
use Rattle.brace_model.proofs.WorldLemmas.{RisesById-from_pairs, RisesById-pair}
use Rattle.brace_model.proofs.world.rises.Goals as goal

pub returns-then-agents-i : goal.returns-then-agents-i
returns-then-agents-i c rises =
    let lt : (get_or c.args.agents.now (c.loop-i.i - 1) c.index-agents-i.result).id < (get_or c.args.agents.now c.loop-i.i c.index-agents-i-in-loop-i.result).id =
    RisesById-pair _ _ _ _ _ (omega arith) (omega arith) rises in
    omega (arith, lt, c.if-agents-i.true)

pub returns : goal.returns
returns c = RisesById-from_pairs _ (λ k d le. c.loop-i.invariant k d (omega arith))
