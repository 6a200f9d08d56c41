use Rattle.std.proofs.Common.{◌≡◌, rules}
use Rattle.brace_model.specs.declared.world.Agent.{Agent}
use Rattle.brace_fold.proofs.Choosing.{all-more}
use Rattle.brace_fold.proofs.rows.of_class.Goals as goal

pub loop-k-preserved : goal.loop-k-preserved
loop-k-preserved c =
    all-more (λ (a : Agent). a.class ≡ c.args.class) c.args.agents.now c.loop-k.k c.index-agents-k.result (search rules) c.index-agents-k.is
    c.loop-k.invariant (search rules)
