use Rattle.std.proofs.Common.{◌∙◌, ap}
use Rattle.brace_model.specs.declared.world.Agent.{Agent}
use Rattle.brace_watch.specs.inner.Columns.{no_agent}
use Rattle.brace_watch.proofs.member.Member.class.Goals as goal

pub class-requires : goal.class-requires
class-requires c = c.self.invariant

pub returns : goal.returns
returns c = c.class.ensures no_agent ∙ ap (λ (a : Agent). a.class) c.self.view_is
