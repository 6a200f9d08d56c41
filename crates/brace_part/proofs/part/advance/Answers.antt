use Rattle.std.proofs.Common.{rules, ◌≡◌, ◌⊎◌, ◌+◌, ◌++◌, refl, sym, subst, ℕ, List, [], ◌∷◌, None, inl, inr, arith, if◌then◌else◌}
use Rattle.std.specs.Prelude.{slice_get}
use Rattle.brace_model.specs.FaultOrder.{least}
use Rattle.brace_pieces.specs.declared.setting.Stage.TheVariants as stage
use Rattle.brace_pieces.specs.declared.setting.Setting.{Setting}
use Rattle.brace_pieces.specs.Steps.{steps}
use Rattle.brace_pieces.specs.declared.piece.Shown.{Shown}
use Rattle.brace_herd.specs.declared.stance.Stance.{Stance}
use Rattle.brace_part.specs.declared.standing.Standing.{Standing}
use Rattle.brace_pieces.specs.Courses.{step_of}
use Rattle.brace_herd.specs.Works.{found_in_work}
use Rattle.brace_part.specs.Parts.{brings_at}
use Rattle.brace_herd.specs.Ready.{IsReadyBehind}
use Rattle.brace_part.specs.inner.Ready.{AreKept}
use Rattle.brace_part.specs.inner.Sound.{ComesTo}
use Rattle.brace_pieces.proofs.StepLemmas.{of_run}
use Rattle.brace_part.proofs.ShownLemmas.{is_noted}
use Rattle.brace_part.proofs.ComesLemmas.{note_of, comes_next, kept_there}
use Rattle.brace_part.proofs.part.advance.Goals as goal

-- the same by another name of the next free id
noted_by : (t : ℕ) (s : Setting) (old new : List Shown) (stance : Stance) (m n : ℕ) → m ≡ n
    → new ≡ old ++ (if is_noted s (t + 1) then note_of s (t + 1) stance m ∷ [] else [])
    → new ≡ old ++ (if is_noted s (t + 1) then note_of s (t + 1) stance n ∷ [] else [])
noted_by t s old new stance m n same is = subst
    (λ k. new ≡ old ++ (if is_noted s (t + 1) then note_of s (t + 1) stance k ∷ [] else [])) same is

pub note_next-requires : goal.note_next-requires
note_next-requires c =
    let high = (of_run c.args.course.now.setting c.args.number c.args.at c.requires.work.stands).high in
    let last = c.requires.part.lawful.job_is_lawful.last_in_range in
    omega (arith, high, last)

pub prepare-requires-clause-comes : goal.prepare-requires-clause-comes
prepare-requires-clause-comes c =
    let s = c.args.course.now.setting in
    let p = c.args.course.now.actor in
    let at = c.args.at in
    let st = c.in_ok-standing.field-0 in
    let old = c.args.standing.now in
    let has = subst (λ r. IsReadyBehind r p at.stage at.tick st) c.setting.ensures.setting (subst (λ q. IsReadyBehind c.setting.result.now q at.stage at.tick st) c.actor.ensures.actor c.in_ok-standing.ensures.ready) in
    let none = subst (λ r. least (found_in_work r p at.stage at.tick) ≡ None) c.setting.ensures.setting (subst (λ q. least (found_in_work c.setting.result.now q at.stage at.tick) ≡ None) c.actor.ensures.actor c.in_ok-standing.ensures.passes) in
    let moved = λ (m : at.stage ≡ stage.Move).
    subst (λ (n : ℕ). c.note_next.new.shown ≡ old.shown ++
    (if is_noted s (at.tick + 1) then note_of s
    (at.tick + 1) st n ∷ [] else [])) c.next_behind-standing.ensures
    (subst (λ (r : Setting). c.note_next.new.shown ≡ old.shown ++
    (if is_noted r (at.tick + 1) then note_of r
    (at.tick + 1) st c.next_behind-standing.result ∷ [] else [])) c.setting-2.ensures.setting
    (c.in_ok-note_next.ensures.moved m)) in
    let new : Standing = record { stance = st; next = c.next_behind-standing.result; out = old.out; taken = c.clear.new.self; shown = c.note_next.new.shown; counts = old.counts } in
    subst (λ n. ComesTo s p n (slice_get (steps s) n) new) (sym c.requires.behind)
    (comes_next s p c.args.queries.now c.requires.part c.args.number at old c.requires.work new c.next_behind-standing.ensures has none moved c.in_ok-note_next.ensures.stays refl)

pub returns-in_err-prepare-clause-kept : goal.returns-in_err-prepare-clause-kept
returns-in_err-prepare-clause-kept c =
    c.prepare.ensures.kept
    (kept_there c.args.course.now.setting c.args.course.now.actor c.args.queries.now c.requires.part c.args.number c.args.at c.args.standing.now c.requires.work c.requires.kept
    c.setting.result.now c.setting-2.result.now c.actor.result c.in_ok-standing.field-0 c.note_next.new.shown c.setting.ensures.setting c.setting-2.ensures.setting c.actor.ensures.actor
    c.in_ok-standing.ensures.ready (λ m. noted_by c.args.at.tick c.setting-2.result.now c.args.standing.now.shown c.note_next.new.shown c.in_ok-standing.field-0 _ _ c.next_behind-standing.ensures (c.in_ok-note_next.ensures.moved m)) c.in_ok-note_next.ensures.stays)

pub returns-clause-kept : goal.returns-clause-kept
returns-clause-kept c =
    c.prepare.ensures.kept
    (kept_there c.args.course.now.setting c.args.course.now.actor c.args.queries.now c.requires.part c.args.number c.args.at c.args.standing.now c.requires.work c.requires.kept
    c.setting.result.now c.setting-2.result.now c.actor.result c.in_ok-standing.field-0 c.note_next.new.shown c.setting.ensures.setting c.setting-2.ensures.setting c.actor.ensures.actor
    c.in_ok-standing.ensures.ready (λ m. noted_by c.args.at.tick c.setting-2.result.now c.args.standing.now.shown c.note_next.new.shown c.in_ok-standing.field-0 _ _ c.next_behind-standing.ensures (c.in_ok-note_next.ensures.moved m)) c.in_ok-note_next.ensures.stays)

pub returns-in_err-note_next-clause-still : goal.returns-in_err-note_next-clause-still
returns-in_err-note_next-clause-still c =
    let new = c.note_next.new.shown in
    let k = c.args.course.now in
    let still : (new ≡ c.args.standing.now.shown) ⊎ (new ≡ brings_at k.setting k.actor (step_of k)) = inl c.in_err-note_next.ensures.kept in
    search (still, c.from_residual-in_err-note_next.ensures, rules)

pub returns-in_err-prepare-clause-still : goal.returns-in_err-prepare-clause-still
returns-in_err-prepare-clause-still c =
    let new = c.prepare.new.standing.shown in
    let k = c.args.course.now in
    let still : (new ≡ c.args.standing.now.shown) ⊎ (new ≡ brings_at k.setting k.actor (step_of k)) = inr c.in_err-prepare.ensures.still in
    search (still, c.from_residual-in_err-prepare.ensures, rules)

pub returns-in_err-note_next-clause-kept : goal.returns-in_err-note_next-clause-kept
returns-in_err-note_next-clause-kept c = subst (AreKept c.args.course.now.setting c.args.course.now.actor) (sym c.in_err-note_next.ensures.kept) c.requires.kept
