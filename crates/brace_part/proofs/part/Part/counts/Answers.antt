use Rattle.std.proofs.Common.{◌≡◌, None, subst}
use Rattle.brace_part.specs.Parts.{OnPart}
use Rattle.brace_pieces.specs.Given.{counts_up_to}
use Rattle.brace_part.proofs.part.Part.counts.Goals as goal

pub returns-clause-given : goal.returns-clause-given
returns-clause-given c = subst (λ (v : OnPart). v.cause ≡ None → v.counts ≡ counts_up_to v.course.setting v.course.actor v.course.number) c.self.view_is (λ none. (c.self.invariant.goes_on none).counted)
