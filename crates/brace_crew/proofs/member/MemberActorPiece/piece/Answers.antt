use Rattle.std.proofs.Common.{◌≡◌, sym, subst}
use Rattle.brace_core.specs.declared.name.Name.{Name}
use Rattle.brace_core.specs.declared.name.Turn.TheVariants as turn
use Rattle.brace_core.specs.Exchanges.{due}
use Rattle.brace_pieces.specs.Steps.{schedule}
use Rattle.brace_pieces.specs.Right.{IsRight}
use Rattle.brace_pieces.specs.Courses.{past_of}
use Rattle.brace_crew.specs.Members.{course_of}
use Rattle.brace_crew.proofs.member.MemberActorPiece.piece.Goals as goal

pub returns-in-Part-clause-right : goal.returns-in-Part-clause-right
returns-in-Part-clause-right g c =
    subst (λ m. (name : Name) → due schedule (course_of m).setting (course_of m).actor (past_of (course_of m)) ≡ turn.Put name → IsRight (course_of m).setting name c.piece.result) (sym c.in-Part.is) c.piece.ensures.right

pub returns-in-Desk-clause-right : goal.returns-in-Desk-clause-right
returns-in-Desk-clause-right g c =
    subst (λ m. (name : Name) → due schedule (course_of m).setting (course_of m).actor (past_of (course_of m)) ≡ turn.Put name → IsRight (course_of m).setting name c.piece-in-Desk.result) (sym c.in-Desk.is) c.piece-in-Desk.ensures.right
