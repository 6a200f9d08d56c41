use Rattle.std.proofs.Common.{sym, subst, ◌≤◌, length}
use Rattle.brace_pieces.specs.Steps.{steps}
use Rattle.brace_crew.specs.declared.member.Member.TheVariants as member
use Rattle.brace_crew.specs.Members.{course_of, IsAt, WasUntold}
use Rattle.brace_crew.proofs.CrewEnds.{untold_there}
use Rattle.brace_crew.proofs.member.Member.ends_here.Goals as goal

pub returns-in-Desk-clause-untold : goal.returns-in-Desk-clause-untold
returns-in-Desk-clause-untold g c untold n within at =
    let d = c.in-Desk.desk in
    let there = untold_there d c.ends_here.ensures.course n (subst (λ m. n ≤ length (steps (course_of m).setting)) c.in-Desk.is within) (subst (IsAt n) c.in-Desk.is at) in
    subst (λ m. WasUntold (course_of m).setting n (member.Desk c.ends_here.new.self)) (sym c.in-Desk.is)
    (subst (λ e. WasUntold d.course.setting n (member.Desk e)) (sym (c.ends_here.ensures.untold untold)) there)
