use Rattle.std.proofs.Common.{◌≡◌, ◌∙◌, ◌+◌, refl, sym, ap, subst, None, Some, is_some}
use Rattle.std.specs.Vec.{vec_capacity}
use Rattle.brace_core.specs.declared.name.Turn.TheVariants as turn
use Rattle.brace_model.specs.FaultOrder.{least}
use Rattle.brace_pieces.specs.Right.{IsRightCause}
use Rattle.brace_pieces.specs.Courses.{OnCourse, due_on}
use Rattle.brace_pieces.proofs.TurnLemmas.{place_is}
use Rattle.brace_pieces.proofs.HaltRight.{no_cause}
use Rattle.brace_herd.specs.Works.{IsCauseOf, found_in_work}
use Rattle.brace_part.specs.Parts.{OnPart, IsCauseOfAll}
use Rattle.brace_part.specs.inner.Ready.{AreKept}
use Rattle.brace_part.specs.inner.Sound.{GoesOn}
use Rattle.brace_part.proofs.CauseLemmas.{cause_told, found_passed, found_halted, found_faulted}
use Rattle.brace_part.proofs.SoundLemmas.{sound_at}
use Rattle.brace_part.proofs.GoneLemmas.{work_on}
use Rattle.brace_num.proofs.Options.{not_some}
use Rattle.brace_part.proofs.part.PartActorPiece.work.Goals as goal

pub work-at-requires-clause-turn : goal.work-at-requires-clause-turn
work-at-requires-clause-turn c = subst (λ (v : OnPart). due_on v.course ≡ turn.Work) (sym c.self.view_is) c.requires.turn

pub invariant_of-self : goal.invariant_of-self
invariant_of-self c =
    let i = c.self.inside in
    let k = i.turns.course in
    let at = c.work-at.result in
    let o = i.turns.cause in
    let some = ap is_some (sym c.work-at.ensures.cause) ∙ sym c.is_some.ensures ∙ c.if-is_some.true in
    let room = vec_capacity i.standing.taken in
    sound_at i.turns c.work-at.new.self (k.number + 1) 0 (place_is k c.work-at.new.self.course c.work-at.ensures.place at c.work-at.ensures.next) c.work-at.ensures.turns o c.work-at.ensures.cause
    i.queries i.standing i.standing room room c.self.invariant (λ none. absurd (no_cause o some none))
    (found_halted k.setting k.actor k.number at o c.work-at.ensures.next.stands some c.self.invariant.turns.right c.self.invariant.found) c.self.invariant.kept refl

pub advance-worked-requires-clause-behind : goal.advance-worked-requires-clause-behind
advance-worked-requires-clause-behind c =
    let k = c.self.inside.turns.course in
    ap (λ (x : OnCourse). x.number) (place_is k c.work-at.new.self.course c.work-at.ensures.place c.work-at.result c.work-at.ensures.next) ∙ ap (λ n. n + 1) (sym c.number-number.ensures)

pub advance-worked-requires-clause-start : goal.advance-worked-requires-clause-start
advance-worked-requires-clause-start c =
    let k = c.self.inside.turns.course in
    ap (λ (x : OnCourse). x.made) (place_is k c.work-at.new.self.course c.work-at.ensures.place c.work-at.result c.work-at.ensures.next)

pub advance-worked-requires-clause-work : goal.advance-worked-requires-clause-work
advance-worked-requires-clause-work c =
    let i = c.self.inside in
    let none = sym c.work-at.ensures.cause ∙ not_some c.work-at.new.self.cause (sym c.is_some.ensures ∙ c.if-is_some.false) in
    work_on i.turns.course c.work-at.new.self.course c.work-at.ensures.place c.work-at.result c.work-at.ensures.next c.number-number.result i.standing c.number-number.ensures (c.self.invariant.goes_on none)

pub advance-worked-requires-clause-kept : goal.advance-worked-requires-clause-kept
advance-worked-requires-clause-kept c =
    let i = c.self.inside in
    let k = c.work-at.new.self.course in
    subst (λ p. AreKept k.setting p i.standing.shown) (sym c.work-at.ensures.same_actor) (subst (λ s. AreKept s i.turns.course.actor i.standing.shown) (sym c.work-at.ensures.same_setting) c.self.invariant.kept)

pub invariant_of-self-in-Err : goal.invariant_of-self-in-Err
invariant_of-self-in-Err c =
    let i = c.self.inside in
    let k = i.turns.course in
    let at = c.work-at.result in
    let cause = c.in-Err.cause in
    let here = place_is k c.work-at.new.self.course c.work-at.ensures.place at c.work-at.ensures.next in
    let none = sym c.work-at.ensures.cause ∙ not_some c.work-at.new.self.cause (sym c.is_some.ensures ∙ c.if-is_some.false) in
    let faulted = subst (λ p. IsCauseOf (found_in_work k.setting p at.stage at.tick) cause) c.work-at.ensures.same_actor
    (subst (λ s. IsCauseOf (found_in_work s c.work-at.new.self.course.actor at.stage at.tick) cause) c.work-at.ensures.same_setting c.in-Err.ensures.faulted) in
    let right = subst (λ (x : OnCourse). IsRightCause x.setting x.number cause) (sym here) (cause_told k.setting c.self.invariant.is_part.lawful k.actor k.number at c.work-at.ensures.next.stands cause faulted) in
    sound_at i.turns (record { course = c.work-at.new.self.course; cause = Some cause }) (k.number + 1) 0 here (record { on_course = c.work-at.ensures.turns.on_course; right = right }) (Some cause) refl
    i.queries i.standing c.advance-worked.new.standing (vec_capacity i.standing.taken) (vec_capacity c.advance-worked.new.standing.taken) c.self.invariant (λ none. absurd (no_cause (Some cause) refl none))
    (found_faulted k.setting k.actor k.number at cause c.work-at.ensures.next.stands faulted (subst (IsCauseOfAll k.setting k.actor k.number) none c.self.invariant.found))
    (subst (λ (x : OnCourse). AreKept x.setting x.actor c.advance-worked.new.standing.shown) here c.advance-worked.ensures.kept) c.advance-worked.ensures.places

pub invariant_of-self-in_default : goal.invariant_of-self-in_default
invariant_of-self-in_default c =
    let i = c.self.inside in
    let k = i.turns.course in
    let at = c.work-at.result in
    let here = place_is k c.work-at.new.self.course c.work-at.ensures.place at c.work-at.ensures.next in
    let passes = subst (λ p. least (found_in_work k.setting p at.stage at.tick) ≡ None) c.work-at.ensures.same_actor
    (subst (λ s. least (found_in_work s c.work-at.new.self.course.actor at.stage at.tick) ≡ None) c.work-at.ensures.same_setting c.in_default.ensures.passes) in
    sound_at i.turns c.work-at.new.self (k.number + 1) 0 here c.work-at.ensures.turns i.turns.cause c.work-at.ensures.cause
    i.queries i.standing c.advance-worked.new.standing (vec_capacity i.standing.taken) (vec_capacity c.advance-worked.new.standing.taken) c.self.invariant
    (λ none. subst (λ x. GoesOn x c.advance-worked.new.standing) here c.in_default.ensures.goes_on)
    (found_passed k.setting k.actor k.number at i.turns.cause c.work-at.ensures.next.stands passes c.self.invariant.found)
    (subst (λ (x : OnCourse). AreKept x.setting x.actor c.advance-worked.new.standing.shown) here c.advance-worked.ensures.kept) c.advance-worked.ensures.places
