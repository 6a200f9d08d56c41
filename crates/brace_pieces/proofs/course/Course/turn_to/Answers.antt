use Rattle.std.proofs.Common.{◌∙◌, ap, subst, arith}
use Rattle.brace_pieces.specs.Courses.{OnCourse, IsCourse}
use Rattle.brace_pieces.proofs.CourseLemmas.{turn_until, turn_over}
use Rattle.brace_pieces.proofs.course.Course.turn_to.Goals as goal

pub returns-then-end-self : goal.returns-then-end-self
returns-then-end-self c =
    let course = subst IsCourse c.self.view_is c.self.invariant.is_course in
    let number = ap (λ (v : OnCourse). v.number) c.self.view_is in
    turn_over c.args.self.now course c.args.end (omega (arith, c.if-end-self.true, number))

pub returns : goal.returns
returns c =
    let course = subst IsCourse c.self.view_is c.self.invariant.is_course in
    let number = ap (λ (v : OnCourse). v.number) c.self.view_is in
    c.turn.ensures.turn ∙ turn_until c.args.self.now course c.args.end (omega (arith, c.if-end-self.false, number))
