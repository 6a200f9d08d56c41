use Rattle.std.proofs.Common.{rules, ◌≡◌, ◌∙◌, ◌≤◌, sym, ap, subst, true, None, arith}
use Rattle.std.specs.Prelude.{slice_get, is_some}
use Rattle.std.specs.List.{list_all}
use Rattle.std.specs.Vec.{vec_capacity}
use Rattle.std.proofs.lemmas.Bool.{true≢false}
use Rattle.std.proofs.lemmas.List.Elements.{All-nil}
use Rattle.brace_model.specs.Lawful.{is_lawful_agent}
use Rattle.brace_fold.specs.Listed.{AreListed}
use Rattle.brace_pieces.specs.Settings.{cuts_of, parts}
use Rattle.brace_pieces.specs.Owned.{owns}
use Rattle.brace_pieces.specs.Continued.{on}
use Rattle.brace_herd.proofs.LawfulOn.{on_lawful, some_pass}
use Rattle.brace_pieces.specs.Steps.{steps}
use Rattle.brace_pieces.specs.Courses.{OnCourse, IsCourse, step_of}
use Rattle.brace_herd.specs.declared.stance.Stance.TheVariants.{Owns}
use Rattle.brace_part.specs.declared.standing.Standing.{Standing}
use Rattle.brace_part.specs.Parts.{kept_at, IsCauseOfAll}
use Rattle.brace_part.specs.inner.Ready.{AreKept}
use Rattle.brace_herd.specs.Workers.{IsPartOf}
use Rattle.brace_part.specs.inner.Sound.{ComesTo}
use Rattle.brace_part.proofs.CauseLemmas.{found_first}
use Rattle.brace_herd.proofs.CellLemmas.{listed_stored, own_rises}
use Rattle.brace_part.proofs.StartLemmas.{comes_first, kept_first, kept_own, noted_first, from_none}
use Rattle.brace_part.proofs.part.Part.make.Goals as goal
use Rattle.brace_part.proofs.part.Part.make.Goals.{then-is_some+in_ok-keep, else-is_some}

pub in_columns-requires : goal.in_columns-requires
in_columns-requires c =
    let s = c.args.setting.now in
    let first = s.job.first in
    subst (λ l. list_all (is_lawful_agent s.job.program) l ≡ true)
    (sym c.requires.owns)
    (some_pass (is_lawful_agent s.job.program) (owns s.job.program (cuts_of s first) c.args.p)
    (on s first).agents (on_lawful s c.requires.lawful first).each_is_lawful)

pub prepare-requires-clause-comes : goal.prepare-requires-clause-comes
prepare-requires-clause-comes c =
    let s = c.args.setting.now in
    let mine = listed_stored s.job.program _ c.in_ok-own.own
    (own_rises s c.requires.lawful c.args.p (cuts_of s s.job.first) s.job.first)
    (subst (λ l. AreListed s.job.program l c.in_ok-own.own) c.requires.owns c.in_ok-own.ensures) in
    let start = c.in_ok-course.ensures.start in
    let some_is : c.is_some.result ≡ is_some (slice_get (steps s) 0) = c.is_some.ensures ∙ ap is_some (c.step.ensures ∙ ap step_of start) in
    subst (λ (d : OnCourse). ComesTo d.setting d.actor d.number (step_of d) c.if-is_some.standing) (sym start)
    (elim c.if-is_some.branch [
      | then-is_some+in_ok-keep w ↦ subst (ComesTo s c.args.p 0 (slice_get (steps s) 0)) (sym w.standing-is)
          (comes_first s c.args.p _ c.next.ensures.same mine
          (λ some. noted_first s (Owns c.in_ok-own.own) _ _ c.next.ensures.same
          (kept_own s c.args.p c.in_ok-own.own c.args.owned _ _ mine c.requires.owns
          (from_none _ _ _ c.new-2.ensures w.in_ok-keep.ensures.noted)))
          (λ none. absurd (true≢false (sym w.if-is_some.true ∙ some_is ∙ none))) c.none.ensures)
      | else-is_some w ↦ subst (ComesTo s c.args.p 0 (slice_get (steps s) 0)) (sym w.standing-is)
          (comes_first s c.args.p _ c.next.ensures.same mine
          (λ some. absurd (true≢false (sym some ∙ sym some_is ∙ w.if-is_some.false)))
          (λ none. c.new-2.ensures) c.none.ensures)
    ])

pub invariant_of-result : goal.invariant_of-result
invariant_of-result c =
    let s = c.args.setting.now in
    let p = c.args.p in
    let mine = listed_stored s.job.program _ c.in_ok-own.own
    (own_rises s c.requires.lawful c.args.p (cuts_of s s.job.first) s.job.first)
    (subst (λ l. AreListed s.job.program l c.in_ok-own.own) c.requires.owns c.in_ok-own.ensures) in
    let start = c.in_ok-course.ensures.start in
    let kept : AreKept s p c.if-is_some.standing.shown = elim c.if-is_some.branch [
      | then-is_some+in_ok-keep w ↦ subst (λ (x : Standing). AreKept s p x.shown) (sym w.standing-is)
          (kept_first s p (Owns c.in_ok-own.own) w.keep.new.shown mine
          (noted_first s (Owns c.in_ok-own.own) _ _ c.next.ensures.same
          (kept_own s p c.in_ok-own.own c.args.owned _ _ mine c.requires.owns
          (from_none _ _ _ c.new-2.ensures w.in_ok-keep.ensures.noted))))
      | else-is_some w ↦ subst (λ (x : Standing). AreKept s p x.shown) (sym w.standing-is) (subst (AreKept s p) (sym c.new-2.ensures) (All-nil (λ w. w ≡ kept_at s p w.tick)))
    ] in
    let taken : c.if-is_some.standing.taken ≡ c.in_ok-with_capacity.field-0 = elim c.if-is_some.branch [
      | then-is_some+in_ok-keep w ↦ ap (λ (x : Standing). x.taken) w.standing-is
      | else-is_some w ↦ ap (λ (x : Standing). x.taken) w.standing-is
    ] in
    let places : parts s ≤ vec_capacity c.in_ok-with_capacity.field-0 = search rules in
    record {
      is_part = subst (λ (d : OnCourse). IsPartOf d.setting d.actor c.in_ok-queries.queries) (sym start) (record {
        lawful = c.requires.lawful;
        numbers = c.numbers_fit.ensures;
        is_part = c.requires.is_part;
        queries_are = c.in_ok-queries.ensures;
      });
      turns = record { on_course = subst IsCourse (sym start) (record { is_actor = omega (arith, c.requires.is_part); before_work = omega arith }); right = tt };
      goes_on = λ e. c.in_ok-prepare.ensures.goes_on;
      found = subst (λ (d : OnCourse). IsCauseOfAll d.setting d.actor d.number None) (sym start) (found_first s p None);
      kept = c.prepare.ensures.kept (subst (λ (d : OnCourse). AreKept d.setting d.actor c.if-is_some.standing.shown) (sym start) kept);
      has_room = subst (λ (d : OnCourse). parts d.setting ≤ vec_capacity c.prepare.new.standing.taken) (sym start)
          (subst (λ t. parts s ≤ vec_capacity t) (sym (c.in_ok-prepare.ensures.taken ∙ taken)) places);
    }
