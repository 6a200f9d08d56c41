use Rattle.std.proofs.Common.{◌≡◌, ◌∙◌, ◌+◌, ◌-◌, ◌*◌, ◌<◌, ◌≤◌, length, true, ap, subst, rules}
use Rattle.std.specs.Prelude.{is_some, not}
use Rattle.brace_core.specs.declared.name.Turn.TheVariants.{Done}
use Rattle.brace_pieces.specs.Courses.{OnCourse, IsCourse, turn_of}
use Rattle.brace_pieces.proofs.CourseLemmas.{course_turn, puts_next, takes_next, works_next}
use Rattle.brace_pieces.proofs.course.Course.turn.Goals as goal

pub returns-then-is_none-clause-due : goal.returns-then-is_none-clause-due
returns-then-is_none-clause-due c =
    let turn : Done ≡ turn_of c.args.self.now = search rules in
    turn ∙ course_turn c.args.self.now (subst IsCourse c.self.view_is c.self.invariant.is_course)

pub returns-then-self-count : goal.returns-then-self-count
returns-then-self-count c =
    let i = c.self.inside in
    let w : OnCourse = record { setting = i.setting.now; actor = i.actor; number = i.number; made = i.made } in
    let some : is_some i.step ≡ true = c.is_none.ensures ∙ ap not c.if-is_none.false in
    let low : i.made < length i.others.items = search rules in
    let turn = puts_next w i.step i.others.items c.self.invariant.step_is_there c.self.invariant.others_are_met some c.index.result.now low c.index.ensures ∙ ap turn_of c.self.view_is in
    record { turn = turn; due = turn ∙ course_turn c.args.self.now (subst IsCourse c.self.view_is c.self.invariant.is_course) }

pub returns-then-self-count-2 : goal.returns-then-self-count-2
returns-then-self-count-2 c =
    let i = c.self.inside in
    let w : OnCourse = record { setting = i.setting.now; actor = i.actor; number = i.number; made = i.made } in
    let some : is_some i.step ≡ true = c.is_none.ensures ∙ ap not c.if-is_none.false in
    let low : i.made - length i.others.items < length i.others.items = search rules in
    let behind : i.made ≡ length i.others.items + (i.made - length i.others.items) = search rules in
    let turn = takes_next w i.step i.others.items c.self.invariant.step_is_there c.self.invariant.others_are_met some (i.made - length i.others.items) c.index-then-self-count-2.result.now behind low (search rules) ∙ ap turn_of c.self.view_is in
    record { turn = turn; due = turn ∙ course_turn c.args.self.now (subst IsCourse c.self.view_is c.self.invariant.is_course) }

pub returns : goal.returns
returns c =
    let i = c.self.inside in
    let w : OnCourse = record { setting = i.setting.now; actor = i.actor; number = i.number; made = i.made } in
    let some : is_some i.step ≡ true = c.is_none.ensures ∙ ap not c.if-is_none.false in
    let high : 2 * length i.others.items ≤ i.made = search rules in
    let turn = works_next w i.step i.others.items c.self.invariant.step_is_there c.self.invariant.others_are_met some high ∙ ap turn_of c.self.view_is in
    record { turn = turn; due = turn ∙ course_turn c.args.self.now (subst IsCourse c.self.view_is c.self.invariant.is_course) }
