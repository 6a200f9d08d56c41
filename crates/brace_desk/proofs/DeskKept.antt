-- A desk is sound behind each of its puts and takes.
use Rattle.std.proofs.Common.{◌≡◌, ◌∙◌, refl, sym, ap, ap₂, subst, ℕ, ◌+◌, ◌-◌, ◌*◌, ◌<◌, ◌≤◌, List, [], ◌∷◌, ◌++◌, map, take, length, slice_get, length-append, All, Option, Some, None, arith}
use Rattle.std.proofs.lemmas.List.{take_more, map-append}
use Rattle.std.proofs.lemmas.List.Elements.{All-head, All-tail, All-push, All-map, All-weaker}
use Rattle.std.proofs.lemmas.List.FromFn.{length-range_with_len}
use Rattle.brace_core.specs.declared.name.Name.{Name}
use Rattle.brace_pieces.specs.declared.setting.Setting.{Setting}
use Rattle.brace_pieces.specs.declared.piece.Cause.{Cause}
use Rattle.brace_pieces.specs.declared.piece.Piece.{Piece}
use Rattle.brace_pieces.specs.declared.piece.Piece.TheVariants as piece
use Rattle.brace_pieces.specs.declared.piece.Shown.{Shown}
use Rattle.brace_pieces.specs.Settings.{parts, shown_ticks}
use Rattle.brace_pieces.specs.Steps.{steps}
use Rattle.brace_pieces.specs.Right.{IsFaultless, IsShown, IsRight, IsRightCause}
use Rattle.brace_pieces.specs.Courses.{OnCourse, others_of, gone_on}
use Rattle.brace_pieces.specs.Turns.{PutsNext, TakesNext, IsTurns, cause_behind}
use Rattle.brace_pieces.proofs.CourseLemmas.{goes_within}
use Rattle.brace_pieces.proofs.HaltRight.{take_halt}
use Rattle.brace_desk.specs.declared.publisher.Publisher as publisher
use Rattle.brace_desk.specs.declared.desk.Lot.{Lot}
use Rattle.brace_desk.specs.Desks.{OnDesk}
use Rattle.brace_desk.specs.Lots.{brought, tick_shown}
use Rattle.brace_desk.specs.inner.Sound.{IsLot, IsStopped, IsDesk}
use Rattle.brace_desk.proofs.DeskCourses.{ShowsNext, takes_shown, takes_from, shown_taken, halts_else}

-- ---- what parts brought

lot_is : (s : Setting) (t : ℕ) (lot : Lot) → IsShown s t lot.part lot.worlds → lot ≡ brought s (tick_shown s t) (shown_ticks s t) lot.part
lot_is s t lot h = ap (λ worlds. record { part = lot.part; worlds = worlds }) h.shown

pub lots_are : (s : Setting) (t : ℕ) (lots : List Lot) → All (λ lot. IsShown s t lot.part lot.worlds) lots → lots ≡ map (brought s (tick_shown s t) (shown_ticks s t)) (map (λ lot. lot.part) lots)
lots_are s t [] all = refl
lots_are s t (lot ∷ lots) all =
    let Q : Lot → Type 0 = λ lot. IsShown s t lot.part lot.worlds in
    ap₂ (λ x xs. x ∷ xs) (lot_is s t lot (All-head Q lot lots all)) (lots_are s t lots (All-tail Q lot lots all))

pub lots_faultless : (s : Setting) (t : ℕ) (lots : List Lot) → All (λ lot. IsShown s t lot.part lot.worlds) lots → All (IsFaultless s t) (map (λ lot. lot.part) lots)
lots_faultless s t lots all =
    let Q : Lot → Type 0 = λ lot. IsShown s t lot.part lot.worlds in
    All-map (IsFaultless s t) (λ (lot : Lot). lot.part) lots
    (All-weaker Q (λ (lot : Lot). IsFaultless s t lot.part)
    (λ (lot : Lot) (shown : IsShown s t lot.part lot.worlds). shown.faultless) lots all)

-- its publisher fits its run
pub desk_fits : {P : Type 0} (of : publisher.Ghosts P) (d : OnDesk P) (room : ℕ) → IsDesk of d room → (s : Setting) → s ≡ d.course.setting → of.fits d.publisher s.job.program
desk_fits of d room h s same = subst (λ (r : Setting). of.fits d.publisher r.job.program) (sym same) (h.rises.still_fits d.course.setting.job.program h.fits)

-- ---- why it goes no further behind a piece

shows_on : (o : Option Cause) (worlds : List Shown) → cause_behind o (piece.Show worlds) ≡ o
shows_on (Some x) worlds = refl
shows_on None worlds = refl

halt_halts : (o : Option Cause) (x : Cause) → cause_behind o (piece.Halt x) ≡ None → ⊥
halt_halts (Some y) x none = absurd (cc)
halt_halts None x none = absurd (cc)

none_before : (o : Option Cause) (x : Piece) → cause_behind o x ≡ None → o ≡ None
none_before (Some y) x none = absurd (cc)
none_before None x none = refl

-- ---- behind a put or a take

module _ {P : Type 0} (of : publisher.Ghosts P) (d : OnDesk P) (room : ℕ) (h : IsDesk of d room) where
  abbrev s : Setting
  s = d.course.setting

  abbrev others : List ℕ
  others = others_of d.course

  abbrev count : ℕ
  count = length others

  abbrev number : ℕ
  number = d.course.number

  abbrev made : ℕ
  made = d.course.made

  at_it : number ≤ d.since → d.since ≡ number
  at_it high = by_cause d.cause refl
    where
      by_cause : (o : Option Cause) → d.cause ≡ o → d.since ≡ number
      by_cause (Some y) same = omega (arith, high, (h.stopped y same).not_later)
      by_cause None same = h.goes same

  -- it stands there with this cause, and has these lots
  abbrev pub desk_at : OnCourse → Option Cause → List Lot → OnDesk P
  desk_at c o lots = record { course = c; opening = d.opening; publisher = d.publisher; cause = o; refusal = d.refusal; since = d.since; lots = lots; told = d.told; untold = d.untold }

  still : (x : Cause) → d.cause ≡ Some x → IsStopped (record d.course { made = made + 1 }) d.since x
  still x is =
      let w = h.stopped x is in
      record { not_later = w.not_later; took_it = λ here. (let took = w.took_it here in omega (arith, took)); end = w.end; stands = w.stands; right = w.right }

  module _ (k : OnCourse) (place : k ≡ gone_on d.course) (o : Option Cause) (turns : IsTurns (record { course = k; cause = o })) where
    within : made < 2 * count → (o ≡ None → d.cause ≡ None) → ((x : Cause) → o ≡ Some x → IsStopped (record d.course { made = made + 1 }) d.since x) → (lots : List Lot) (places : ℕ) → places ≡ room
        → All (IsLot s (slice_get (steps s) d.since)) lots → (o ≡ None → map (λ lot. lot.part) lots ≡ take (made + 1 - count) others) → (d.since ≡ number → length lots ≤ made + 1 - count) → IsDesk of (desk_at k o lots) places
    within low went stopped lots places same brought took few =
        let here : k ≡ record d.course { made = made + 1 } = place ∙ goes_within d.course low in
        subst (λ c. IsDesk of (desk_at c o lots) places) (sym here) (record {
          lawful = h.lawful;
          numbers = h.numbers;
          is_last = h.is_last;
          turns = subst (λ c. IsTurns (record { course = c; cause = o })) here turns;
          goes = λ e. h.goes (went e);
          stopped = stopped;
          showing = h.showing;
          brought = brought;
          took = took;
          few = few;
          has_room = subst (λ r. parts s ≤ r) (sym same) h.has_room;
          fits = h.fits;
          rises = h.rises;
        })

    pub desk_put : (n : Name) → PutsNext d.course n → o ≡ d.cause → IsDesk of (desk_at k o d.lots) room
    desk_put n turn same =
        let low = turn.low in
        let none : made - count ≡ made + 1 - count = omega (arith, low) in
        within (omega (arith, low)) (λ e. sym same ∙ e) (λ x is. still x (sym same ∙ is)) d.lots room refl h.brought
        (λ e. h.took (sym same ∙ e) ∙ ap (λ i. take i others) none) (λ e. (let few = h.few e in omega (arith, few)))

    module _ (n : Name) (turn : TakesNext d.course n) (x : Piece) (right : IsRight s n x) (is : o ≡ cause_behind d.cause x) where
      abbrev next : ShowsNext d.course
      next = takes_shown d.course h.is_last n turn

      stopped : (p : Option Cause) → d.cause ≡ p → (y : Piece) → IsRight s n y → (z : Cause) → cause_behind p y ≡ Some z → IsStopped (record d.course { made = made + 1 }) d.since z
      stopped (Some w) same y right z e = still z (same ∙ e)
      stopped None same (piece.Halt w) right z e =
          let here : d.since ≡ number = h.goes same in
          let one : w ≡ z = cc in
          record {
            not_later = omega (arith, here);
            took_it = λ stays. omega (arith, turn.high);
            end = next.tick;
            stands = ap (slice_get (steps s)) here ∙ next.stands;
            right = subst (IsRightCause s d.since) one (subst (λ m. IsRightCause s m w) (sym here) (take_halt d.course n w turn right));
          }
      stopped None same _ right z e = absurd (cc)

      taken : (lots : List Lot) (places : ℕ) → places ≡ room → All (IsLot s (slice_get (steps s) d.since)) lots
          → (o ≡ None → map (λ lot. lot.part) lots ≡ take (made + 1 - count) others) → (d.since ≡ number → length lots ≤ made + 1 - count) → IsDesk of (desk_at k o lots) places
      taken = within (omega (arith, turn.low, turn.high)) (λ e. none_before d.cause x (sym is ∙ e)) (λ z e. stopped d.cause refl x right z (sym is ∙ e))

      take_none : (o ≡ None → ⊥) → IsDesk of (desk_at k o d.lots) room
      take_none some = taken d.lots room refl h.brought (λ e. absurd (some e)) (λ e. (let few = h.few e in omega (arith, few)))

      -- where it stopped in a step before, or of anything but what a part shows: that is a cause
      pub take_closed : d.since < number → IsDesk of (desk_at k o d.lots) room
      take_closed low = take_none (λ none. (let here = h.goes (none_before d.cause x (sym is ∙ none)) in omega (arith, here, low)))

      pub take_else : ((worlds : List Shown) → x ≡ piece.Show worlds → ⊥) → IsDesk of (desk_at k o d.lots) room
      take_else shows =
          let (a, halts) = halts_else d.course h.is_last n turn x right shows in
          take_none (λ none. halt_halts d.cause a (sym (is ∙ ap (cause_behind d.cause) halts) ∙ none))

      module _ (high : number ≤ d.since) where
        -- it has a place for one more
        pub has_place : length d.lots < room
        has_place = let few = h.few (at_it high) in omega (arith, few, turn.low, ap length next.others ∙ length-range_with_len 0 (parts s), h.has_room)

        -- of what a part shows
        pub take_lot : (worlds : List Shown) → x ≡ piece.Show worlds → (lots : List Lot) → lots ≡ d.lots ++ record { part = n.from; worlds = worlds } ∷ [] → (places : ℕ) → places ≡ room → IsDesk of (desk_at k o lots) places
        take_lot worlds shows lots more places same =
            let i : ℕ = made - count in
            let on : i + 1 ≡ made + 1 - count = omega (arith, turn.high) in
            let lot : Lot = record { part = n.from; worlds = worlds } in
            let shown : IsShown s next.tick n.from worlds = shown_taken d.course h.is_last n turn worlds (subst (IsRight s n) shows right) in
            let here : IsLot s (slice_get (steps s) d.since) lot = subst (λ p. IsLot s p lot) (sym (ap (slice_get (steps s)) (at_it high) ∙ next.stands)) shown in
            let same_cause : o ≡ d.cause = is ∙ ap (cause_behind d.cause) shows ∙ shows_on d.cause worlds in
            taken lots places same (subst (All (IsLot s (slice_get (steps s) d.since))) (sym more) (All-push (IsLot s (slice_get (steps s) d.since)) d.lots lot h.brought here))
            (λ e.
            ap (map (λ lot. lot.part)) more ∙ map-append (λ lot. lot.part) d.lots (lot ∷ []) ∙ ap₂ (λ xs y. xs ++ y ∷ []) (h.took (sym same_cause ∙ e)) (takes_from d.course h.is_last n turn)
            ∙ sym (take_more others i 0 turn.low) ∙ ap (λ j. take j others) on)
            (λ e. (let few = h.few e in omega (arith, few, on, ap length more ∙ length-append d.lots (lot ∷ []))))
