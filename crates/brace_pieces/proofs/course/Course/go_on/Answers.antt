use Rattle.std.proofs.Common.{◌≡◌, ◌∙◌, ◌*◌, ◌<◌, ◌≤◌, length, ap, sym, subst, arith, rules, Some}
use Rattle.brace_pieces.specs.Courses.{OnCourse, IsCourse, met_in, step_of, gone_on, past_of}
use Rattle.brace_pieces.specs.Steps.{steps}
use Rattle.brace_pieces.proofs.WalkLemmas.{steps_short}
use Rattle.brace_pieces.proofs.CourseLemmas.{goes_within, goes_behind, one_past, course_behind, there_within}
use Rattle.brace_pieces.proofs.course.Course.go_on.Goals as goal

pub returns-then-self-len-clause-place : goal.returns-then-self-len-clause-place
returns-then-self-len-clause-place c =
    let i = c.self.inside in
    let w : OnCourse = record { setting = i.setting.now; actor = i.actor; number = i.number; made = i.made } in
    let low : i.made < 2 * length i.others.items = search rules in
    sym (goes_within w (subst (λ others. i.made < 2 * length others) c.self.invariant.others_are_met low)) ∙ ap gone_on c.self.view_is

pub overflow_add-self-in-Some : goal.overflow_add-self-in-Some
overflow_add-self-in-Some c =
    let s = c.self.inside.setting.now in
    let within = c.self.invariant.within_steps in
    let last = c.self.invariant.is_lawful.job_is_lawful.last_in_range in
    omega (arith, within, steps_short s, last)

pub invariant_of-self-in-Some : goal.invariant_of-self-in-Some
invariant_of-self-in-Some c =
    let i = c.self.inside in
    let s = i.setting.now in
    let w : OnCourse = record { setting = s; actor = i.actor; number = i.number; made = i.made } in
    let held = c.self.invariant in
    let at : step_of w ≡ Some c.in-Some.at = sym held.step_is_there ∙ c.in-Some.is in
    let next = c.step_after-self-inside.ensures.next i.number at in
    record {
      is_lawful = held.is_lawful;
      is_course = course_behind w held.is_course;
      step_is_there = next;
      within_steps = there_within (steps s) i.number c.in-Some.at at;
      others_are_met = c.gather.ensures.met ∙ ap (λ o. met_in s o i.actor) next;
      far_is = held.far_is;
      has_room = omega (arith, c.gather.ensures.room, held.has_room);
    }

pub returns-in-Some-clause-past : goal.returns-in-Some-clause-past
returns-in-Some-clause-past c =
    let i = c.self.inside in
    let w : OnCourse = record { setting = i.setting.now; actor = i.actor; number = i.number; made = i.made } in
    let held = c.self.invariant in
    let at : step_of w ≡ Some c.in-Some.at = sym held.step_is_there ∙ c.in-Some.is in
    let high : 2 * length i.others.items ≤ i.made = search rules in
    let behind = goes_behind w c.in-Some.at at (subst (λ others. 2 * length others ≤ i.made) held.others_are_met high) in
    sym (ap past_of behind) ∙ ap (λ v. past_of (gone_on v)) c.self.view_is ∙ one_past c.args.self.now (subst IsCourse c.self.view_is held.is_course) c.requires.is_left
