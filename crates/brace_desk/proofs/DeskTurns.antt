-- What a desk puts is right, and why it publishes nothing any more.
use Rattle.std.proofs.Common.{◌≡◌, ◌∙◌, refl, sym, ap, subst, ℕ, ◌+◌, ◌<◌, ◌≤◌, All, true, false, Option, Some, None, arith, inl, inr}
use Rattle.std.proofs.lemmas.Bool.{cases_lt}
use Rattle.brace_core.specs.declared.name.Name.{Name}
use Rattle.brace_pieces.specs.declared.setting.Setting.{Setting}
use Rattle.brace_pieces.specs.declared.setting.Stage.TheVariants.{Show}
use Rattle.brace_pieces.specs.declared.piece.Cause.{Cause}
use Rattle.brace_pieces.specs.declared.piece.Cause.TheVariants as cause
use Rattle.brace_pieces.specs.Steps.{step}
use Rattle.brace_pieces.specs.Right.{IsRight}
use Rattle.brace_pieces.specs.Courses.{OnCourse}
use Rattle.brace_pieces.specs.Exchanged.{IsHalted}
use Rattle.brace_pieces.specs.Turns.{PutsNext}
use Rattle.brace_pieces.proofs.HaltRight.{put_halt}
use Rattle.brace_desk.specs.declared.publisher.PubFault.{PubFault}
use Rattle.brace_desk.specs.declared.publisher.Publisher as publisher
use Rattle.brace_desk.specs.declared.desk.Stop.TheVariants as stop
use Rattle.brace_desk.specs.Desks.{OnDesk, stop_in, stop_of, put_by, StoppedAt, HasShown, HasHalted, HasRefused, AreFaultless, ends_before}
use Rattle.brace_desk.specs.inner.Sound.{IsLot, IsStopped, IsShownSo, WasCut, IsDesk}
use Rattle.brace_desk.proofs.EndCalls.{ends_more, ends_up}
use Rattle.brace_desk.proofs.DeskCourses.{ack_right}

-- ---- why a desk publishes nothing any more, by its parts

pub none_stops : (r : Option PubFault) (c : Option Cause) → stop_in r c ≡ None → (r ≡ None) × (c ≡ None)
none_stops (Some f) c none = absurd (cc)
none_stops None (Some x) none = absurd (cc)
none_stops None None none = (refl, refl)

halt_stops : (r : Option PubFault) (c : Option Cause) (x : Cause) → stop_in r c ≡ Some (stop.Halt x) → (r ≡ None) × (c ≡ Some x)
halt_stops (Some f) c x is = absurd (cc)
halt_stops None None x is = absurd (cc)
halt_stops None (Some y) x is = (refl, cc)

refusal_stops : (r : Option PubFault) (c : Option Cause) (f : PubFault) → stop_in r c ≡ Some (stop.Refusal f) → r ≡ Some f
refusal_stops (Some g) c f is = cc
refusal_stops None None f is = absurd (cc)
refusal_stops None (Some x) f is = absurd (cc)

-- behind the step in which it stopped one more end is before
pub one_more : (c : OnCourse) (since : ℕ) (x : Cause) → IsStopped c since x → since < c.number → ends_before c.setting since + 1 ≤ ends_before c.setting c.number
one_more c since x w before =
    let up = ends_up c.setting (since + 1) c.number (omega (arith, before)) in
    omega (arith, up, ends_more c.setting since (step Show w.end) w.stands refl)

module _ {P : Type 0} (of : publisher.Ghosts P) (d : OnDesk P) (room : ℕ) (h : IsDesk of d room) where
  abbrev s : Setting
  s = d.course.setting

  abbrev number : ℕ
  number = d.course.number

  stands_on : stop_of d ≡ None → d.since ≡ number
  stands_on none = h.goes (none_stops d.refusal d.cause none).1

  -- one that stopped has a cause
  pub stop_some : (stop_of d ≡ None → ⊥) → (x : Cause) × (d.cause ≡ Some x)
  stop_some some = by_cause d.cause refl d.refusal refl
    where
      by_cause : (c : Option Cause) → d.cause ≡ c → (r : Option PubFault) → d.refusal ≡ r → (x : Cause) × (c ≡ Some x)
      by_cause (Some x) same r is = (x, refl)
      by_cause None same None is = absurd (some (ap (λ r. stop_in r d.cause) is ∙ ap (stop_in None) same))
      by_cause None same (Some f) is = absurd (let up = h.showing.refused f is in omega (arith, up, ap (ends_before s) (h.goes same)))

  pub stop_none : stop_of d ≡ None → HasShown of d (ends_before s number)
  stop_none none =
      subst (λ n. HasShown of d (ends_before s n)) (stands_on none)
      (subst (IsShownSo of s d.opening d.publisher (ends_before s d.since)) (none_stops d.refusal d.cause none).0 h.showing.shown)

  stopped_at : ends_before s d.since + 1 ≤ ends_before s number → StoppedAt d (ends_before s d.since)
  stopped_at more =
      let w = h.showing in
      record { not_yet = λ e. (let few = w.not_yet e in omega (arith, more, few)); has_told = w.has_told; seen = w.seen }

  pub stop_halted : (x : Cause) → stop_of d ≡ Some (stop.Halt x) → d.course.made ≡ 0 → HasHalted of d x
  stop_halted x is between =
      let (none, halts) = halt_stops d.refusal d.cause x is in
      let w = h.stopped x halts in
      let before : d.since < number = elim (cases_lt d.since number) [
        | inl low ↦ low
        | inr high ↦ absurd (let took = w.took_it (omega (arith, w.not_later, high)) in omega (arith, took, between))
      ] in
      record {
        number = d.since;
        end = w.end;
        stands = w.stands;
        shown = subst (IsShownSo of s d.opening d.publisher (ends_before s d.since)) none h.showing.shown;
        right = w.right;
        brought = subst (λ p. All (IsLot s p) d.lots) w.stands h.brought;
        stopped = stopped_at (one_more d.course d.since x w before);
      }

  pub stop_refused : (f : PubFault) → stop_of d ≡ Some (stop.Refusal f) → HasRefused of d f
  stop_refused f is =
      let refuses = refusal_stops d.refusal d.cause f is in
      let there : WasCut of s d.opening d.publisher (ends_before s d.since) f = subst (IsShownSo of s d.opening d.publisher (ends_before s d.since)) refuses h.showing.shown in
      record {
        cut_there = there.cut_there;
        faultless = subst (λ n. AreFaultless s (n + 1)) (sym there.made) there.faultless;
        stopped = subst (StoppedAt d) (sym there.made) (stopped_at (h.showing.refused f refuses));
      }

  -- the publisher of a desk that did not refuse was shown the first ends
  pub stop_shown : ((f : PubFault) → stop_of d ≡ Some (stop.Refusal f) → ⊥) → (count : ℕ) × HasShown of d count
  stop_shown no_refusal = by_refusal d.refusal refl h.showing.shown
    where
      by_refusal : (r : Option PubFault) → d.refusal ≡ r → IsShownSo of s d.opening d.publisher (ends_before s d.since) r → (count : ℕ) × HasShown of d count
      by_refusal None is shown = (ends_before s d.since, shown)
      by_refusal (Some f) is shown = absurd (no_refusal f (ap (λ r. stop_in r d.cause) is))

  -- ---- whether its Halt was put to all

  pub told_stopped : d.told ≡ true → stop_of d ≡ None → ⊥
  told_stopped told none = let late = h.showing.has_told told in omega (arith, late, ap (ends_before s) (stands_on none))

  -- where it has not it keeps in which step that was seen
  pub seen_untold : d.told ≡ false → IsDesk of (record { course = d.course; opening = d.opening; publisher = d.publisher; cause = d.cause; refusal = d.refusal; since = d.since; lots = d.lots; told = d.told; untold = number }) room
  seen_untold untold =
      let w = h.showing in
      record {
        lawful = h.lawful;
        numbers = h.numbers;
        is_last = h.is_last;
        turns = h.turns;
        goes = h.goes;
        stopped = h.stopped;
        showing = record { shown = w.shown; refused = w.refused; not_yet = w.not_yet; has_told = w.has_told; seen = w.not_yet untold };
        brought = h.brought;
        took = h.took;
        few = h.few;
        has_room = h.has_room;
        fits = h.fits;
        rises = h.rises;
      }

  -- ---- what it puts is right

  pub put_right : (n : Name) → PutsNext d.course n → IsRight s n (put_by (stop_of d))
  put_right n turn = by_stop d.refusal d.cause h.turns.right
    where
      by_stop : (r : Option PubFault) (c : Option Cause) → IsHalted s number c → IsRight s n (put_by (stop_in r c))
      by_stop (Some f) c right = put_halt d.course n cause.Closed turn tt
      by_stop None None right = ack_right d.course h.is_last n turn
      by_stop None (Some (cause.Fault f)) right = put_halt d.course n (cause.Fault f) turn right
      by_stop None (Some cause.NoMemory) right = put_halt d.course n cause.NoMemory turn tt
      by_stop None (Some cause.Closed) right = put_halt d.course n cause.NoMemory turn tt
