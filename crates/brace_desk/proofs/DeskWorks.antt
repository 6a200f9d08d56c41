-- A desk is sound behind its work.
use Rattle.std.proofs.Common.{◌≡◌, ◌∙◌, refl, sym, ap, subst, ℕ, ◌+◌, ◌-◌, ◌<◌, ◌≤◌, List, [], map, take, take_all, length, slice_get, nat_lt, All, Bool, true, false, Option, Some, None, arith}
use Rattle.std.specs.List.{range_with_len}
use Rattle.std.proofs.lemmas.Bool.Decides.{nat_tests}
use Rattle.std.proofs.lemmas.List.{nil_from_length}
use Rattle.std.proofs.lemmas.List.Elements.{All-nil, All-contains}
use Rattle.brace_pieces.specs.declared.setting.Setting.{Setting}
use Rattle.brace_pieces.specs.declared.setting.Stage.TheVariants.{Show}
use Rattle.brace_pieces.specs.declared.setting.Step.{Step}
use Rattle.brace_pieces.specs.declared.piece.Cause.{Cause}
use Rattle.brace_pieces.specs.Settings.{parts, shown_ticks}
use Rattle.brace_pieces.specs.Steps.{step, steps, is_show}
use Rattle.brace_pieces.specs.Right.{IsFaultless, IsShown, IsRightCause}
use Rattle.brace_pieces.specs.Courses.{OnCourse, step_of, others_of, gone_on}
use Rattle.brace_pieces.specs.Turns.{WorksNext, IsTurns}
use Rattle.brace_pieces.proofs.TurnLemmas.{place_is}
use Rattle.brace_io.specs.Counts.{Rose}
use Rattle.brace_desk.specs.declared.publisher.PubFault.{PubFault}
use Rattle.brace_desk.specs.declared.publisher.PubFault.TheVariants as fault
use Rattle.brace_desk.specs.declared.publisher.Publisher as publisher
use Rattle.brace_desk.specs.declared.desk.Lot.{Lot}
use Rattle.brace_desk.specs.Refusals.{tick_of}
use Rattle.brace_desk.specs.Calls.{Rises}
use Rattle.brace_desk.specs.Desks.{OnDesk, stop_of, WasShown, AreFaultless, whole_at, ends_before}
use Rattle.brace_desk.specs.Lots.{brought, tick_shown}
use Rattle.brace_desk.specs.inner.Sound.{IsLot, IsStopped, IsShownSo, IsShowing, IsDesk}
use Rattle.brace_desk.proofs.EndCalls.{ends_more, ends_same, end_there, whole_call, call_there, faultless_more, behind_more}
use Rattle.brace_desk.proofs.DeskCourses.{shows_in, nobody_met}
use Rattle.brace_desk.proofs.DeskKept.{lots_are, lots_faultless}
use Rattle.brace_desk.proofs.DeskTurns.{none_stops, one_more, stop_some, stop_none, told_stopped}
use Rattle.brace_desk.proofs.RiseLemmas.{rose_from, stays_risen, then_rises}
use Rattle.brace_num.proofs.Rows.{row_has}

-- its publisher fits its run
pub desk_fits : {P : Type 0} (of : publisher.Ghosts P) (d : OnDesk P) (room : ℕ) → IsDesk of d room → (s : Setting) → s ≡ d.course.setting → of.fits d.publisher s.job.program
desk_fits of d room h s same = subst (λ (r : Setting). of.fits d.publisher r.job.program) (sym same) (h.rises.still_fits d.course.setting.job.program h.fits)

module _ {P : Type 0} (of : publisher.Ghosts P) (d : OnDesk P) (room : ℕ) (h : IsDesk of d room) (k : OnCourse) (place : k ≡ gone_on d.course) (at : Step) (turn : WorksNext d.course at) where
  abbrev s : Setting
  s = d.course.setting

  abbrev number : ℕ
  number = d.course.number

  -- it stands there with this publisher and this cause, and has these lots
  abbrev pub desk_on : OnCourse → P → Option Cause → Option PubFault → ℕ → List Lot → Bool → OnDesk P
  desk_on c now o r since lots told = record { course = c; opening = d.opening; publisher = now; cause = o; refusal = r; since = since; lots = lots; told = told; untold = d.untold }

  behind : (now : P) (o : Option Cause) (r : Option PubFault) (since : ℕ) (lots : List Lot) (told : Bool) (places : ℕ) → places ≡ room → IsTurns (record { course = k; cause = o }) → (o ≡ None → since ≡ number + 1)
      → ((x : Cause) → o ≡ Some x → IsStopped (record d.course { number = number + 1; made = 0 }) since x) → IsShowing of s d.opening now r (ends_before s since) (ends_before s (number + 1)) told d.untold
      → All (IsLot s (slice_get (steps s) since)) lots → (since ≡ number + 1 → lots ≡ []) → Rises of d.publisher now → IsDesk of (desk_on k now o r since lots told) places
  behind now o r since lots told places same turns goes stopped showing brought none rises =
      let c : OnCourse = record d.course { number = number + 1; made = 0 } in
      let here : k ≡ c = place_is d.course k place at turn in
      let nothing : 0 ≡ 0 - length (others_of c) = omega arith in
      subst (λ c. IsDesk of (desk_on c now o r since lots told) places) (sym here) (record {
        lawful = h.lawful;
        numbers = h.numbers;
        is_last = h.is_last;
        turns = subst (λ c. IsTurns (record { course = c; cause = o })) here turns;
        goes = goes;
        stopped = stopped;
        showing = showing;
        brought = brought;
        took = λ e. ap (map (λ lot. lot.part)) (none (goes e)) ∙ ap (λ n. take n (others_of c)) nothing;
        few = λ e. omega (arith, ap length (none e));
        has_room = subst (λ n. parts s ≤ n) (sym same) h.has_room;
        fits = h.fits;
        rises = then_rises of d.opening d.publisher now h.rises rises;
      })

  -- ---- it stopped before, or in this step

  module _ (some : stop_of d ≡ None → ⊥) (o : Option Cause) (same : o ≡ d.cause) (turns : IsTurns (record { course = k; cause = o })) where
    abbrev cause : Cause
    cause = (stop_some of d room h some).0

    abbrev halts : d.cause ≡ Some cause
    halts = (stop_some of d room h some).1

    not_later : d.since ≤ number
    not_later = (h.stopped cause halts).not_later

    stays : (told : Bool) → IsShowing of s d.opening d.publisher d.refusal (ends_before s d.since) (ends_before s (number + 1)) told d.untold → IsDesk of (desk_on k d.publisher o d.refusal d.since d.lots told) room
    stays told showing =
        behind d.publisher o d.refusal d.since d.lots told room refl turns (λ e. absurd (let no : None ≡ Some cause = sym e ∙ same ∙ halts in cc)) (λ x is. later x (h.stopped x (sym same ∙ is)))
        showing h.brought (λ e. absurd (omega (arith, e, not_later))) (stays_risen of d.publisher)
      where
        later : (x : Cause) → IsStopped d.course d.since x → IsStopped (record d.course { number = number + 1; made = 0 }) d.since x
        later x w = record { not_later = omega (arith, w.not_later); took_it = λ e. absurd (omega (arith, e, w.not_later)); end = w.end; stands = w.stands; right = w.right }

    -- it told so in a step that shows all
    pub work_told : at.stage ≡ Show → (told : Bool) → told ≡ nat_lt d.since number → IsDesk of (desk_on k d.publisher o d.refusal d.since d.lots told) room
    work_told shows told tells =
        let more = ends_more s number (step Show at.tick) (turn.stands ∙ ap Some (ap (λ stage. step stage at.tick) shows)) refl in
        let w = h.showing in
        stays told (record {
          shown = w.shown;
          refused = λ f is. (let up = w.refused f is in omega (arith, up, more));
          not_yet = λ untold. (let here = at_it (sym tells ∙ untold) in omega (arith, ap (ends_before s) here, more));
          has_told = λ was. (let up = one_more d.course d.since cause (h.stopped cause halts) (before (sym tells ∙ was)) in omega (arith, up, more));
          seen = w.seen;
        })
      where
        at_it : nat_lt d.since number ≡ false → d.since ≡ number
        at_it ends = let up = not_later in grind (arith, nat_tests, up, ends)

        before : nat_lt d.since number ≡ true → d.since < number
        before closed = grind (arith, nat_tests, closed)

    pub work_kept : is_show at.stage ≡ false → IsDesk of (desk_on k d.publisher o d.refusal d.since d.lots d.told) room
    work_kept other = stays d.told (subst (λ n. IsShowing of s d.opening d.publisher d.refusal (ends_before s d.since) n d.told d.untold) (sym (ends_same s number at turn.stands other)) h.showing)

  -- ---- it went on

  module _ (went : stop_of d ≡ None) where
    none : d.cause ≡ None
    none = (none_stops d.refusal d.cause went).1

    no_refusal : d.refusal ≡ None
    no_refusal = (none_stops d.refusal d.cause went).0

    on_it : d.since ≡ number
    on_it = h.goes none

    not_told : d.told ≡ true → ⊥
    not_told told = told_stopped of d room h told went

    no_stop : (o : Option Cause) → o ≡ d.cause → (x : Cause) → o ≡ Some x → ⊥
    no_stop o still x is = (let no : None ≡ Some x = sym (still ∙ none) ∙ is in cc)

    -- nothing is shown
    pub work_other : is_show at.stage ≡ false → (o : Option Cause) → o ≡ d.cause → IsTurns (record { course = k; cause = o }) → (since : ℕ) → since ≡ k.number → IsDesk of (desk_on k d.publisher o d.refusal since d.lots d.told) room
    work_other other o still turns since stands =
        let here : since ≡ number + 1 = stands ∙ ap (λ c. c.number) (place_is d.course k place at turn) in
        let few = h.few on_it in
        let no_lots : d.lots ≡ [] = nil_from_length d.lots (omega (arith, few, h.turns.on_course.before_work, nobody_met d.course h.is_last at turn.stands other)) in
        let ends = ends_same s number at turn.stands other in
        behind d.publisher o d.refusal since d.lots d.told room refl turns (λ e. here) (λ x is. absurd (no_stop o still x is))
        (subst (λ n. IsShowing of s d.opening d.publisher d.refusal n (ends_before s (number + 1)) d.told d.untold) (sym (ap (ends_before s) here ∙ ends ∙ sym (ap (ends_before s) on_it)))
        (subst (λ n. IsShowing of s d.opening d.publisher d.refusal (ends_before s d.since) n d.told d.untold) (sym ends) h.showing))
        (subst (All (IsLot s (slice_get (steps s) since))) (sym no_lots) (All-nil (IsLot s (slice_get (steps s) since)))) (λ e. no_lots) (stays_risen of d.publisher)

    module _ (shows : at.stage ≡ Show) where
      abbrev t : ℕ
      t = at.tick

      is : step_of d.course ≡ Some (step Show t)
      is = turn.stands ∙ ap Some (ap (λ stage. step stage at.tick) shows)

      more : ends_before s (number + 1) ≡ ends_before s number + 1
      more = ends_more s number (step Show t) is refl

      shown_there : WasShown of s d.opening d.publisher (ends_before s number)
      shown_there = stop_none of d room h went

      are_shown : All (λ lot. IsShown s t lot.part lot.worlds) d.lots
      are_shown = subst (λ o. All (IsLot s o) d.lots) (ap (slice_get (steps s)) on_it ∙ is) h.brought

      all_brought : map (λ lot. lot.part) d.lots ≡ range_with_len 0 (parts s)
      all_brought = h.took none ∙ take_all (d.course.made - length (others_of d.course)) (others_of d.course) (omega (arith, turn.high)) ∙ (shows_in d.course h.is_last t is).others

      all_faultless : (p : ℕ) → p < parts s → IsFaultless s t p
      all_faultless p low = All-contains (IsFaultless s t) (range_with_len 0 (parts s)) p
          (subst (All (IsFaultless s t)) all_brought (lots_faultless s t d.lots are_shown))
          (row_has 0 (parts s) p (omega arith) (omega (arith, low)))

      faultless : AreFaultless s (ends_before s number + 1)
      faultless = faultless_more s (ends_before s number) t (end_there s number t is) shown_there.faultless all_faultless

      -- all parts brought what they show
      pub work_brought : (r : Setting) → r ≡ s → d.lots ≡ map (brought r (tick_shown r t) (shown_ticks r t)) (range_with_len 0 (parts r))
      work_brought r same =
          subst (λ (r : Setting). d.lots ≡ map (brought r (tick_shown r t) (shown_ticks r t)) (range_with_len 0 (parts r))) (sym same)
          (lots_are s t d.lots are_shown ∙ ap (map (brought s (tick_shown s t) (shown_ticks s t))) all_brought)

      module _ (r : Setting) (same_setting : r ≡ s) (now : P) (lots : List Lot) (empty : lots ≡ []) (places : ℕ) (same : places ≡ room) (rises : Rises of d.publisher now) (o : Option Cause) (turns : IsTurns (record { course = k; cause = o })) where
        nothing : (p : Option Step) → All (IsLot s p) lots
        nothing p = subst (All (IsLot s p)) (sym empty) (All-nil (IsLot s p))

        -- the publisher took all
        pub work_shown : o ≡ d.cause → (since : ℕ) → since ≡ k.number → of.state now ≡ of.after (of.state d.publisher) r t (map (whole_at r) (shown_ticks r t)) → IsDesk of (desk_on k now o d.refusal since lots d.told) places
        work_shown still since stands done =
            let here : since ≡ number + 1 = stands ∙ ap (λ c. c.number) (place_is d.course k place at turn) in
            behind now o d.refusal since lots d.told places same turns (λ e. here) (λ x is. absurd (no_stop o still x is))
            (subst (λ n. IsShowing of s d.opening now d.refusal (ends_before s n) (ends_before s (number + 1)) d.told d.untold) (sym here) (record {
              shown = subst (IsShownSo of s d.opening now (ends_before s (number + 1))) (sym no_refusal) (subst (WasShown of s d.opening now) (sym more) (record {
                is_behind = behind_more s of d.opening (ends_before s number) t (of.state d.publisher) (of.state now) (call_there s number t is) shown_there.is_behind
                    (subst (λ (r : Setting). of.state now ≡ of.after (of.state d.publisher) r t (map (whole_at r) (shown_ticks r t))) same_setting done);
                faultless = faultless;
              }));
              refused = λ f refuses. absurd (let no : None ≡ Some f = sym no_refusal ∙ refuses in cc);
              not_yet = λ untold. omega arith;
              has_told = λ told. absurd (not_told told);
              seen = omega (arith, h.showing.seen, ap (ends_before s) on_it, more);
            }))
            (nothing (slice_get (steps s) since)) (λ e. empty) rises

        -- it stopped, as it refused or memory was refused
        module _ (x : Cause) (stops : o ≡ Some x) (right : IsRightCause s number x) where
          stopped : (refusal : Option PubFault) → IsShownSo of s d.opening now (ends_before s number) refusal → IsDesk of (desk_on k now o refusal d.since lots d.told) places
          stopped refusal shown =
              behind now o refusal d.since lots d.told places same turns (λ e. absurd (let no : None ≡ Some x = sym e ∙ stops in cc)) there
              (subst (λ n. IsShowing of s d.opening now refusal (ends_before s n) (ends_before s (number + 1)) d.told d.untold) (sym on_it) (record {
                shown = shown;
                refused = λ f refuses. omega (arith, more);
                not_yet = λ untold. omega (arith, more);
                has_told = λ told. absurd (not_told told);
                seen = omega (arith, h.showing.seen, ap (ends_before s) on_it);
              }))
              (nothing (slice_get (steps s) d.since)) (λ e. empty) rises
            where
              there : (y : Cause) → o ≡ Some y → IsStopped (record d.course { number = number + 1; made = 0 }) d.since y
              there y names =
                  let one : x ≡ y = let same : Some x ≡ Some y = sym stops ∙ names in cc in
                  record {
                    not_later = omega (arith, on_it);
                    took_it = λ e. absurd (omega (arith, e, on_it));
                    end = t;
                    stands = ap (slice_get (steps s)) on_it ∙ is;
                    right = subst (IsRightCause s d.since) one (subst (λ n. IsRightCause s n x) (sym on_it) right);
                  }

          pub work_stopped : of.state now ≡ of.state d.publisher → IsDesk of (desk_on k now o d.refusal d.since lots d.told) places
          work_stopped kept = stopped d.refusal (subst (IsShownSo of s d.opening now (ends_before s number)) (sym no_refusal) (record { is_behind = kept ∙ shown_there.is_behind; faultless = shown_there.faultless }))

          pub work_refused : (f : PubFault) → of.cut (of.state d.publisher) r t (map (whole_at r) (shown_ticks r t)) f (of.state now) → (f ≡ fault.NoMemory → ⊥) → ((n : ℕ) → tick_of f ≡ Some n → n ≡ t)
              → (f ≡ fault.Write → Rose (of.writes d.publisher) (of.writes now)) → ((n : ℕ) → tick_of f ≡ Some n → Rose (of.saves d.publisher) (of.saves now)) → IsDesk of (desk_on k now o (Some f) d.since lots d.told) places
          work_refused f cut found named written saved = stopped (Some f) (record {
            cut_there = record {
              made = ends_before s number;
              call = whole_call s t;
              is_next = call_there s number t is;
              is_cut = subst (λ b. of.cut b s t (map (whole_at s) (shown_ticks s t)) f (of.state now)) shown_there.is_behind
                  (subst (λ (r : Setting). of.cut (of.state d.publisher) r t (map (whole_at r) (shown_ticks r t)) f (of.state now)) same_setting cut);
              found_memory = found;
              is_named = named;
              written = λ e. rose_from _ _ _ h.rises.writes_rise (written e);
              saved = λ n e. rose_from _ _ _ h.rises.saves_rise (saved n e);
            };
            made = refl;
            faultless = faultless;
          })
