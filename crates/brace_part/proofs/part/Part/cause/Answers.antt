use Rattle.std.proofs.Common.{subst}
use Rattle.brace_pieces.specs.Courses.{IsCourse}
use Rattle.brace_pieces.specs.Exchanged.{IsHalted}
use Rattle.brace_part.specs.Parts.{OnPart, IsCauseOfAll}
use Rattle.brace_part.proofs.part.Part.cause.Goals as goal

pub returns-clause-right : goal.returns-clause-right
returns-clause-right c = subst (λ (v : OnPart). IsHalted v.course.setting v.course.number c.self.inside.turns.cause) c.self.view_is c.self.invariant.turns.right

pub returns-clause-found : goal.returns-clause-found
returns-clause-found c = subst (λ (v : OnPart). IsCauseOfAll v.course.setting v.course.actor v.course.number v.cause) c.self.view_is c.self.invariant.found

pub returns-clause-course : goal.returns-clause-course
returns-clause-course c = subst (λ (v : OnPart). IsCourse v.course) c.self.view_is c.self.invariant.turns.on_course
