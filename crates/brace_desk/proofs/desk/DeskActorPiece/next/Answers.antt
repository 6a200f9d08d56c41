use Rattle.std.proofs.Common.{◌∙◌, ap}
use Rattle.brace_core.specs.Exchanges.{due_to}
use Rattle.brace_pieces.specs.Steps.{schedule}
use Rattle.brace_pieces.specs.Courses.{past_of}
use Rattle.brace_desk.specs.Desks.{OnDesk}
use Rattle.brace_desk.proofs.desk.DeskActorPiece.next.Goals as goal

pub returns : goal.returns
returns g c = c.turn_to.ensures ∙ ap (λ (v : OnDesk g.row.P.Denot). due_to schedule v.course.setting c.args.end v.course.actor (past_of v.course)) c.self.view_is
