use Rattle.std.proofs.Common.{subst}
use Rattle.brace_part.specs.inner.Ready.{AreKept}
use Rattle.brace_part.proofs.part.Part.shown.Goals as goal

pub returns-clause-right : goal.returns-clause-right
returns-clause-right c = subst (λ v. AreKept v.course.setting v.course.actor v.shown) c.self.view_is c.self.invariant.kept
