use Rattle.std.proofs.Common.{rules, ◌≡◌, ◌∙◌, refl, sym, ap, subst, is_some, false, Some, Err}
use Rattle.std.specs.Prelude.{nat_lt}
use Rattle.std.specs.Vec.{vec_capacity}
use Rattle.brace_core.specs.declared.name.Turn.TheVariants.{Work}
use Rattle.brace_pieces.specs.declared.setting.Stage.TheVariants as stage
use Rattle.brace_pieces.specs.declared.piece.Cause.TheVariants as cause
use Rattle.brace_pieces.specs.Steps.{is_show}
use Rattle.brace_pieces.specs.Right.{IsRightCause}
use Rattle.brace_pieces.specs.Courses.{due_on}
use Rattle.brace_pieces.proofs.HaltRight.{no_cause}
use Rattle.brace_desk.specs.declared.publisher.PubFault.{PubFault}
use Rattle.brace_desk.specs.declared.desk.Stop.TheVariants as stop
use Rattle.brace_desk.specs.Desks.{OnDesk, stop_in}
use Rattle.brace_desk.proofs.DeskWorks.{work_told, work_kept, work_other, work_brought, work_shown, work_stopped, work_refused}
use Rattle.brace_desk.proofs.desk.DeskActorPiece.work.Goals as goal

pub work-at-requires-clause-turns : goal.work-at-requires-clause-turns
work-at-requires-clause-turns g c = record { on_course = c.self.invariant.turns.on_course; right = c.self.invariant.turns.right }

pub work-at-requires-clause-turn : goal.work-at-requires-clause-turn
work-at-requires-clause-turn g c = subst (λ (v : OnDesk g.row.P.Denot). due_on v.course ≡ Work) (sym c.self.view_is) c.requires

pub invariant_of-self : goal.invariant_of-self
invariant_of-self g c =
    let i = c.self.inside in
    let shows : c.work-at.result.stage ≡ stage.Show = search rules in
    let was = sym (c.stop_in.ensures ∙ ap (stop_in i.refusal) c.work-at.ensures.cause) ∙ c.in-Some-true.is-0 in
    work_told g.P.Publisher _ (vec_capacity i.lots) c.self.invariant c.work-at.new.self.course c.work-at.ensures.place c.work-at.result c.work-at.ensures.next
    (no_cause (stop_in i.refusal i.turns.cause) (ap is_some was)) c.work-at.new.self.cause c.work-at.ensures.cause
    (record { on_course = c.work-at.ensures.turns.on_course; right = c.work-at.ensures.turns.right }) shows _ (ap (nat_lt i.since) c.number-number.ensures)

pub invariant_of-self-else-shows : goal.invariant_of-self-else-shows
invariant_of-self-else-shows g c =
    let i = c.self.inside in
    let other : is_show c.work-at.result.stage ≡ false = search rules in
    let was = sym (c.stop_in.ensures ∙ ap (stop_in i.refusal) c.work-at.ensures.cause) ∙ c.in-Some-false.is-0 in
    work_kept g.P.Publisher _ (vec_capacity i.lots) c.self.invariant c.work-at.new.self.course c.work-at.ensures.place c.work-at.result c.work-at.ensures.next
    (no_cause (stop_in i.refusal i.turns.cause) (ap is_some was)) c.work-at.new.self.cause c.work-at.ensures.cause
    (record { on_course = c.work-at.ensures.turns.on_course; right = c.work-at.ensures.turns.right }) other

pub publish-shown-requires-clause-brought : goal.publish-shown-requires-clause-brought
publish-shown-requires-clause-brought g c =
    let i = c.self.inside in
    let shows : c.work-at.result.stage ≡ stage.Show = search rules in
    let went = sym (c.stop_in.ensures ∙ ap (stop_in i.refusal) c.work-at.ensures.cause) ∙ c.in-None-true.is-0 in
    work_brought g.P.Publisher _ (vec_capacity i.lots) c.self.invariant c.work-at.new.self.course c.work-at.ensures.place c.work-at.result c.work-at.ensures.next
    went shows c.setting.result.now (c.setting.ensures.setting ∙ c.work-at.ensures.same_setting)

pub invariant_of-self-in-Ok : goal.invariant_of-self-in-Ok
invariant_of-self-in-Ok g c =
    let i = c.self.inside in
    let shows : c.work-at.result.stage ≡ stage.Show = search rules in
    let went = sym (c.stop_in.ensures ∙ ap (stop_in i.refusal) c.work-at.ensures.cause) ∙ c.in-None-true.is-0 in
    work_shown g.P.Publisher _ (vec_capacity i.lots) c.self.invariant c.work-at.new.self.course c.work-at.ensures.place c.work-at.result c.work-at.ensures.next
    went shows c.setting.result.now (c.setting.ensures.setting ∙ c.work-at.ensures.same_setting) c.publish-shown.new.publisher c.clear.new.self.items c.clear.ensures.items
    (vec_capacity c.clear.new.self) (c.clear.ensures.capacity ∙ c.publish-shown.ensures.places) c.publish-shown.ensures.rises c.work-at.new.self.cause
    (record { on_course = c.work-at.ensures.turns.on_course; right = c.work-at.ensures.turns.right }) c.work-at.ensures.cause c.number-self-inside.result c.number-self-inside.ensures c.in-Ok.ensures.done

pub invariant_of-self-in-Err-Halt : goal.invariant_of-self-in-Err-Halt
invariant_of-self-in-Err-Halt g c =
    let i = c.self.inside in
    let shows : c.work-at.result.stage ≡ stage.Show = search rules in
    let went = sym (c.stop_in.ensures ∙ ap (stop_in i.refusal) c.work-at.ensures.cause) ∙ c.in-None-true.is-0 in
    let x = c.in-Err-Halt.cause in
    let fails : c.publish-shown.result ≡ Err (stop.Halt x) = search rules in
    let (memory, kept) = c.publish-shown.ensures.halted x fails in
    work_stopped g.P.Publisher _ (vec_capacity i.lots) c.self.invariant c.work-at.new.self.course c.work-at.ensures.place c.work-at.result c.work-at.ensures.next
    went shows c.setting.result.now (c.setting.ensures.setting ∙ c.work-at.ensures.same_setting) c.publish-shown.new.publisher c.clear.new.self.items c.clear.ensures.items
    (vec_capacity c.clear.new.self) (c.clear.ensures.capacity ∙ c.publish-shown.ensures.places) c.publish-shown.ensures.rises (Some x)
    (record { on_course = c.work-at.ensures.turns.on_course; right = subst (IsRightCause c.work-at.new.self.course.setting c.work-at.new.self.course.number) (sym memory) tt }) x refl (subst (IsRightCause i.turns.course.setting i.turns.course.number) (sym memory) tt) kept

pub invariant_of-self-in-Err-Refusal : goal.invariant_of-self-in-Err-Refusal
invariant_of-self-in-Err-Refusal g c =
    let i = c.self.inside in
    let shows : c.work-at.result.stage ≡ stage.Show = search rules in
    let went = sym (c.stop_in.ensures ∙ ap (stop_in i.refusal) c.work-at.ensures.cause) ∙ c.in-None-true.is-0 in
    let f = c.in-Err-Refusal.fault in
    let fails : c.publish-shown.result ≡ Err (stop.Refusal f) = search rules in
    let p = c.publish-shown.ensures in
    work_refused g.P.Publisher _ (vec_capacity i.lots) c.self.invariant c.work-at.new.self.course c.work-at.ensures.place c.work-at.result c.work-at.ensures.next
    went shows c.setting.result.now (c.setting.ensures.setting ∙ c.work-at.ensures.same_setting) c.publish-shown.new.publisher c.clear.new.self.items c.clear.ensures.items
    (vec_capacity c.clear.new.self) (c.clear.ensures.capacity ∙ p.places) p.rises (Some cause.Closed)
    (record { on_course = c.work-at.ensures.turns.on_course; right = tt }) cause.Closed refl tt
    f (p.refused f fails) (p.found_memory f fails) (λ n e. p.named f n fails e) (λ same. p.written (fails ∙ ap (λ (y : PubFault). Err (stop.Refusal y)) same)) (λ n e. p.saved f n fails e)

pub invariant_of-self-in-None-false : goal.invariant_of-self-in-None-false
invariant_of-self-in-None-false g c =
    let i = c.self.inside in
    let other : is_show c.work-at.result.stage ≡ false = search rules in
    let went = sym (c.stop_in.ensures ∙ ap (stop_in i.refusal) c.work-at.ensures.cause) ∙ c.in-None-false.is-0 in
    let number = c.number-self-inside-in-None-false in
    work_other g.P.Publisher _ (vec_capacity i.lots) c.self.invariant c.work-at.new.self.course c.work-at.ensures.place c.work-at.result c.work-at.ensures.next
    went other c.work-at.new.self.cause c.work-at.ensures.cause (record { on_course = c.work-at.ensures.turns.on_course; right = c.work-at.ensures.turns.right }) number.result number.ensures
