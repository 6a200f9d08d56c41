use Rattle.std.proofs.Common.{◌≡◌, subst}
use Rattle.brace_core.specs.declared.name.Name.{Name}
use Rattle.brace_core.specs.declared.name.Turn.TheVariants as turn
use Rattle.brace_core.specs.Exchanges.{due, IsTake}
use Rattle.brace_pieces.specs.Steps.{schedule}
use Rattle.brace_pieces.specs.Right.{IsRight}
use Rattle.brace_pieces.specs.Courses.{past_of}
use Rattle.brace_crew.specs.Members.{course_of}
use Rattle.brace_crew.proofs.member.MemberActorPiece.give.Goals as goal

pub give-requires-clause-turn : goal.give-requires-clause-turn
give-requires-clause-turn g c =
    subst (λ m. IsTake (due schedule (course_of m).setting (course_of m).actor (past_of (course_of m)))) c.in-Part.is c.requires.turn

pub give-requires-clause-right : goal.give-requires-clause-right
give-requires-clause-right g c =
    subst (λ m. (name : Name) → due schedule (course_of m).setting (course_of m).actor (past_of (course_of m)) ≡ turn.Take name → IsRight (course_of m).setting name c.args.piece) c.in-Part.is c.requires.right

pub give-requires-in-Desk-clause-turn : goal.give-requires-in-Desk-clause-turn
give-requires-in-Desk-clause-turn g c =
    subst (λ m. IsTake (due schedule (course_of m).setting (course_of m).actor (past_of (course_of m)))) c.in-Desk.is c.requires.turn

pub give-requires-in-Desk-clause-right : goal.give-requires-in-Desk-clause-right
give-requires-in-Desk-clause-right g c =
    subst (λ m. (name : Name) → due schedule (course_of m).setting (course_of m).actor (past_of (course_of m)) ≡ turn.Take name → IsRight (course_of m).setting name c.args.piece) c.in-Desk.is c.requires.right
