-- The rows of what is shown at the ends of a run are its published text, up to a tick and whole, and
-- the world of an end is shown last.
use Rattle.std.proofs.Common.{◌≡◌, ◌∙◌, refl, sym, ap, ap₂, ℕ, zero, suc, ◌+◌, ◌-◌, ◌<◌, ◌≤◌, List, [], ◌∷◌, ◌++◌, length, map, filter, flat_map, append_assoc, Bool, true, false, cond, Some, None, Result, Ok, Err, ◌==◌, ◌||◌, ◌&&◌, add-one, arith}
use Rattle.std.specs.Prelude.{slice_get, nat_lt, nat_le, ◌%◌, if◌then◌else◌}
use Rattle.std.specs.List.{Contains, range_with_len}
use Rattle.std.specs.Result.{result_err}
use Rattle.std.proofs.lemmas.Bool.{or_parts, eq-eqb, lt-leb, le-leb, ne_eqb}
use Rattle.std.proofs.lemmas.Bool.Decides.{nat_tests}
use Rattle.std.proofs.lemmas.Grind.{flat_map-append}
use Rattle.std.proofs.lemmas.List.{append-nil, length-append}
use Rattle.std.proofs.lemmas.List.Elements.{filter-append}
use Rattle.std.proofs.lemmas.List.Folds.{flat_map-map}
use Rattle.brace_model.specs.declared.fault.Fault.{Fault}
use Rattle.brace_model.specs.World.{World}
use Rattle.brace_model.specs.Run.{world_after, end_of}
use Rattle.brace_model.specs.Published.{rows, tick_text, text_of_ticks, published}
use Rattle.brace_model.proofs.RunLemmas.{world_after-next, text-next, text-ended}
use Rattle.brace_invert.proofs.Heard.{seen_in}
use Rattle.brace_pieces.specs.declared.setting.Setting.{Setting}
use Rattle.brace_pieces.specs.declared.piece.Shown.{Shown}
use Rattle.brace_pieces.specs.Settings.{LawfulSetting, is_end, ends, shown_from, shown_ticks}
use Rattle.brace_pieces.proofs.EpochLemmas.{last_ends, from_one, from_first, since}
use Rattle.brace_pieces.proofs.FaultLemmas.{step_is_of}
use Rattle.brace_pieces.proofs.HaltLemmas.{ended}
use Rattle.brace_desk.specs.Calls.{Call, world_shown, worlds_at, call_at, ticks_left, call_of, calls_to, calls}
use Rattle.brace_desk.specs.Shows.{as_world, shown_text, last_shown, saved_world}
use Rattle.brace_pieces.proofs.SumLemmas.{row_front}
use Rattle.brace_pieces.proofs.SumLemmas.{either_first}
use Rattle.brace_num.proofs.Lists.{at_seam}
use Rattle.brace_num.proofs.Rows.{in_row, row_more}

-- ---- what is left out of a row of ticks

one_kept : {A : Type 0} (f : ℕ → List A) (a : ℕ) (kept all : List ℕ) (c : Bool) → (c ≡ false → f a ≡ []) → flat_map f kept ≡ flat_map f all → flat_map f (cond c (a ∷ kept) kept) ≡ f a ++ flat_map f all
one_kept f a kept all true none rest = ap (λ l. f a ++ l) rest
one_kept f a kept all false none rest = rest ∙ ap (λ l. l ++ flat_map f all) (sym (none refl))

-- what gives nothing may be left out
kept_rows : {A : Type 0} (f : ℕ → List A) (test : ℕ → Bool) (n a : ℕ) → ((t : ℕ) → a ≤ t → t < a + n → test t ≡ false → f t ≡ []) → flat_map f (filter test (range_with_len a n)) ≡ flat_map f (range_with_len a n)
kept_rows f test zero a none = refl
kept_rows f test (suc n) a none =
    one_kept f a (filter test (range_with_len (a + 1) n)) (range_with_len (a + 1) n) (test a) (none a (omega arith) (omega arith))
    (kept_rows f test n (a + 1) (λ t low high. none t (omega (arith, low)) (omega (arith, high))))

abbrev pub up_to : ℕ → ℕ → Bool
up_to t v = nat_le v t

-- those of a row up to one
pub cut_row : (p : ℕ → Bool) (t k n a : ℕ) → k ≤ n → a + k ≡ t + 1 → filter (up_to t) (filter p (range_with_len a n)) ≡ filter p (range_with_len a k)
cut_row p t k n a short is =
    let whole : n ≡ k + (n - k) = omega (arith, short) in
    either_first (up_to t) p (range_with_len a n)
    ∙ ap (λ m. filter p (filter (up_to t) (range_with_len a m))) whole
    ∙ ap (filter p) (row_front (up_to t) a k (n - k)
    (λ v low high. le-leb v t (omega (arith, is, high)))
    (λ v low high. lt-leb v t (omega (arith, is, low))))

not_last : (t end last : ℕ) → t < end + 1 → end ≤ last → (t == end) ≡ false → (t == last) ≡ false
not_last t end last low within other = grind (arith, nat_tests, low, within, other)

-- ---- the text of what is shown

module _ (s : Setting) (fresh : Bool) where
  -- the rows of a tick, where the run has a world there
  abbrev text : ℕ → List ℕ
  text t = tick_text s.job fresh t (world_after s.job (t - s.job.first))

  -- those of some ticks in a row
  abbrev over : ℕ → ℕ → List ℕ
  over from n = flat_map text (range_with_len from n)

  -- those of what is shown at an end
  abbrev pub shown_at : ℕ → List ℕ
  shown_at end = shown_text s.job fresh (call_at s end).worlds

  -- a tick that is not published has no rows
  unpublished : (t : ℕ) (r : Result World Fault) → (t % s.job.every == 0) ≡ false → (t == s.job.last) ≡ false → tick_text s.job fresh t r ≡ []
  unpublished t (Err f) part other = refl
  unpublished t (Ok w) part other = ap₂ (λ p q. if (p || q) && (fresh || nat_lt s.job.first t) then rows s.job.program t w.agents else []) part other

  text_in : (t : ℕ) (r : Result World Fault) → shown_text s.job fresh (world_shown t r) ≡ tick_text s.job fresh t r
  text_in t (Ok w) = append-nil (tick_text s.job fresh t (Ok w))
  text_in t (Err f) = refl

  -- the rows of the worlds of some ticks
  text_over : (ticks : List ℕ) → shown_text s.job fresh (worlds_at s ticks) ≡ flat_map text ticks
  text_over [] = refl
  text_over (t ∷ ticks) =
      flat_map-append (λ (w : Shown). tick_text s.job fresh w.tick (Ok (as_world w))) (world_shown t (world_after s.job (t - s.job.first))) (worlds_at s ticks)
      ∙ ap₂ (λ (a b : List ℕ). a ++ b) (text_in t (world_after s.job (t - s.job.first))) (text_over ticks)

  over_one : (from n t : ℕ) → from + n ≡ t → over from (suc n) ≡ over from n ++ text t
  over_one from n t is =
      ap (flat_map text) (row_more from n ∙ ap (λ v. range_with_len from n ++ v ∷ []) is)
      ∙ flat_map-append text (range_with_len from n) (t ∷ [])
      ∙ ap (λ l. over from n ++ l) (append-nil (text t))

  -- the ticks since the end before one, and it
  abbrev through : ℕ → List ℕ
  through t = over (shown_from s t) (t + 1 - shown_from s t)

  abbrev since_end : ℕ → List ℕ
  since_end t = over (shown_from s t) (t - shown_from s t)

  -- what is shown at an end are the rows of all ticks since the end before
  at_end : (end : ℕ) → end ≤ s.job.last → shown_at end ≡ through end
  at_end end within =
      let from : ℕ = shown_from s end in
      text_over (shown_ticks s end)
      ∙ kept_rows text (λ t. (t == end) || (t % s.job.every == 0)) (end + 1 - from) from
      (λ t low high out. let (other, part) = or_parts (t == end) (t % s.job.every == 0) out in
      unpublished t (world_after s.job (t - s.job.first)) part (not_last t end s.job.last (omega (arith, low, high)) within other))

  -- and what is left at a tick before the last one are those since the last end
  at_stop : (t : ℕ) → t < s.job.last → shown_text s.job fresh (worlds_at s (ticks_left s t)) ≡ since_end (t + 1)
  at_stop t within =
      let from : ℕ = shown_from s (t + 1) in
      text_over (ticks_left s t)
      ∙ kept_rows text (λ v. v % s.job.every == 0) (t + 1 - from) from
      (λ v low high out. unpublished v (world_after s.job (v - s.job.first)) out (ne_eqb v s.job.last (λ e. omega (arith, low, high, within, e))))

  -- ---- the text of all ends up to a tick

  abbrev pub told : ℕ → List ℕ
  told n = flat_map shown_at (filter (is_end s) (range_with_len s.job.first n))

  one_end : (t : ℕ) (c : Bool) → flat_map shown_at (cond c (t ∷ []) []) ≡ cond c (shown_at t) []
  one_end t true = append-nil (shown_at t)
  one_end t false = refl

  told_one : (n t : ℕ) → s.job.first + n ≡ t → told (suc n) ≡ told n ++ cond (is_end s t) (shown_at t) []
  told_one n t is =
      let row : List ℕ = range_with_len s.job.first n in
      ap (λ xs. flat_map shown_at (filter (is_end s) xs)) (row_more s.job.first n ∙ ap (λ v. row ++ v ∷ []) is)
      ∙ ap (flat_map shown_at) (filter-append (is_end s) row (t ∷ []))
      ∙ flat_map-append shown_at (filter (is_end s) row) (cond (is_end s t) (t ∷ []) [])
      ∙ ap (λ l. told n ++ l) (one_end t (is_end s t))

  by_end : (t u : ℕ) → u ≡ t + 1 → t ≤ s.job.last → (c : Bool) → shown_from s u ≡ cond c (t + 1) (shown_from s t) → cond c (shown_at t) [] ++ since_end u ≡ through t
  by_end t u is within true from =
      let none : u - shown_from s u ≡ 0 = omega (arith, is, from) in
      ap (λ m. shown_at t ++ over (shown_from s u) m) none ∙ append-nil (shown_at t) ∙ at_end t within
  by_end t u is within false from =
      let more : u - shown_from s u ≡ t + 1 - shown_from s t = omega (arith, is, from) in
      ap₂ over from more

  through_is : (n t : ℕ) → s.job.first + n ≡ t → through t ≡ since_end t ++ tick_text s.job fresh (s.job.first + n) (world_after s.job n)
  through_is n t is =
      let h = since s t (omega (arith, is)) in
      let high = h.high in
      let from : ℕ = shown_from s t in
      let one : t + 1 - from ≡ suc (t - from) = omega (arith, high) in
      let back : t - s.job.first ≡ n = omega (arith, is) in
      ap (over from) one ∙ over_one from (t - from) t (omega (arith, high)) ∙ ap₂ (λ v k. since_end t ++ tick_text s.job fresh v (world_after s.job k)) (sym is) back

  -- what was shown, and what stands since the last end, is all text so far
  covers : (n t : ℕ) → s.job.first + n ≡ t → t ≤ s.job.last + 1 → told n ++ since_end t ≡ text_of_ticks s.job fresh n
  covers zero t is within =
      let none : t - shown_from s t ≡ 0 = omega (arith, is, from_first s t (omega (arith, is))) in
      ap (over (shown_from s t)) none
  covers (suc n) u is within =
      let t : ℕ = s.job.first + n in
      let here : List ℕ = tick_text s.job fresh t (world_after s.job n) in
      let piece : List ℕ = cond (is_end s t) (shown_at t) [] in
      let on : u ≡ t + 1 = omega (arith, is) in
      ap (λ l. l ++ since_end u) (told_one n t refl)
      ∙ append_assoc (told n) piece (since_end u)
      ∙ ap (λ l. told n ++ l) (by_end t u on (omega (arith, on, within)) (is_end s t) (from_one s t u on (omega arith)) ∙ through_is n t refl)
      ∙ sym (append_assoc (told n) (since_end t) here)
      ∙ ap (λ l. l ++ here) (covers n t refl (omega (arith, on, within)))
      ∙ sym (text-next s.job fresh n)
      ∙ ap (text_of_ticks s.job fresh) (add-one n)

  -- the rows of what is shown up to an end, and at it, are the text of all ticks up to it
  pub text_at_end : (n t : ℕ) → s.job.first + n ≡ t → t ≤ s.job.last → is_end s t ≡ true → told n ++ shown_at t ≡ text_of_ticks s.job fresh (1 + (t - s.job.first))
  text_at_end n t is within ends =
      let from : shown_from s (t + 1) ≡ t + 1 = from_one s t (t + 1) refl (omega (arith, is)) ∙ ap (λ c. cond c (t + 1) (shown_from s t)) ends in
      let none : t + 1 - shown_from s (t + 1) ≡ 0 = omega (arith, from) in
      let whole : suc n ≡ 1 + (t - s.job.first) = omega (arith, is) in
      ap (λ c. told n ++ cond c (shown_at t) []) (sym ends)
      ∙ sym (told_one n t is)
      ∙ sym (append-nil (told (suc n)))
      ∙ ap (λ m. told (suc n) ++ over (shown_from s (t + 1)) m) (sym none)
      ∙ covers (suc n) (t + 1) (omega (arith, is)) (omega (arith, within))
      ∙ ap (text_of_ticks s.job fresh) whole

  -- ---- all calls

  abbrev call_text : Call → List ℕ
  call_text c = shown_text s.job fresh c.worlds

  told_all : s.job.first ≤ s.job.last → flat_map call_text (calls_to s None) ≡ published s.job fresh
  told_all up =
      let last : ℕ = s.job.last in
      let n : ℕ = last + 1 - s.job.first in
      let from : shown_from s (last + 1) ≡ last + 1 = from_one s last (last + 1) refl up ∙ ap (λ c. cond c (last + 1) (shown_from s last)) (last_ends s last refl) in
      let none : last + 1 - shown_from s (last + 1) ≡ 0 = omega (arith, from) in
      let whole : n ≡ 1 + (last - s.job.first) = omega (arith, up) in
      flat_map-map call_text (call_at s) (ends s)
      ∙ sym (append-nil (told n))
      ∙ ap (λ m. told n ++ over (shown_from s (last + 1)) m) (sym none)
      ∙ covers n (last + 1) (omega (arith, up)) (omega arith)
      ∙ ap (text_of_ticks s.job fresh) whole

  last_call : (t : ℕ) (worlds : List Shown) → flat_map call_text (call_of t worlds) ≡ shown_text s.job fresh worlds
  last_call t [] = refl
  last_call t (w ∷ ws) = append-nil (shown_text s.job fresh (w ∷ ws))

  told_to : (f : Fault) → s.job.first ≤ f.tick → f.tick < s.job.last → flat_map call_text (calls_to s (Some f)) ≡ text_of_ticks s.job fresh (f.tick + 1 - s.job.first)
  told_to f low high =
      let t : ℕ = f.tick in
      let n : ℕ = t + 1 - s.job.first in
      let left : List Shown = worlds_at s (ticks_left s t) in
      let before : List ℕ = filter (up_to t) (ends s) in
      flat_map-append call_text (map (call_at s) before) (call_of t left)
      ∙ ap₂ (λ (a b : List ℕ). a ++ b)
      (flat_map-map call_text (call_at s) before ∙ ap (flat_map shown_at) (cut_row (is_end s) t n (s.job.last + 1 - s.job.first) s.job.first (omega (arith, low, high)) (omega (arith, low))))
      (last_call t left ∙ at_stop t high)
      ∙ covers n (t + 1) (omega (arith, low)) (omega (arith, high))

-- a run that ends in a fault publishes nothing behind the fault's tick
told_to_fault : (s : Setting) (fresh : Bool) → LawfulSetting s → (f : Fault) → end_of s.job ≡ Err f → flat_map (call_text s fresh) (calls_to s (Some f)) ≡ published s.job fresh
told_to_fault s fresh lawful f is =
    let n : ℕ = s.job.last - s.job.first in
    let h = ended s n f is in
    let before = h.before in
    let k : ℕ = h.ticks in
    let (phase, of) = step_is_of s (s.job.first + k) h.world lawful.job_is_lawful.program_is_lawful f h.ends in
    let at : f.tick ≡ s.job.first + k = of.tick in
    let behind : world_after s.job (k + 1) ≡ Err f = world_after-next s.job k h.world h.there ∙ h.ends in
    let here : f.tick + 1 - s.job.first ≡ k + 1 = omega (arith, at) in
    let rest : k + 1 + (n - k) ≡ 1 + n = omega (arith, before) in
    told_to s fresh f (omega (arith, at)) (omega (arith, at, before))
    ∙ ap (text_of_ticks s.job fresh) here
    ∙ sym (text-ended s.job fresh (k + 1) (n - k) f behind)
    ∙ ap (text_of_ticks s.job fresh) rest

-- the rows of what is shown, call by call, are the published text
pub all_told : (s : Setting) (fresh : Bool) → LawfulSetting s → s.job.first ≤ s.job.last → flat_map (call_text s fresh) (calls s) ≡ published s.job fresh
all_told s fresh lawful up =
    (elim (end_of s.job) as (λ r. end_of s.job ≡ r → flat_map (call_text s fresh) (calls_to s (result_err r)) ≡ published s.job fresh) [
      | Ok w ↦ λ is. told_all s fresh up
      | Err f ↦ λ is. told_to_fault s fresh lawful f is
    ]) refl

-- ---- the world that is shown last

last_item : {A : Type 0} (xs : List A) (y : A) → slice_get (xs ++ y ∷ []) (length (xs ++ y ∷ []) - 1) ≡ Some y
last_item xs y =
    let whole = length-append xs (y ∷ []) in
    let place : length (xs ++ y ∷ []) - 1 ≡ length xs = omega (arith, whole) in
    ap (slice_get (xs ++ y ∷ [])) place ∙ at_seam xs y []

row_one_more : (s : Setting) (end : ℕ) → s.job.first ≤ end → range_with_len (shown_from s end) (end + 1 - shown_from s end) ≡ range_with_len (shown_from s end) (end - shown_from s end) ++ end ∷ []
row_one_more s end low =
    let h = since s end low in
    let high = h.high in
    let from : ℕ = shown_from s end in
    let one : end + 1 - from ≡ suc (end - from) = omega (arith, high) in
    let there : from + (end - from) ≡ end = omega (arith, high) in
    ap (range_with_len from) one ∙ row_more from (end - from) ∙ ap (λ v. range_with_len from (end - from) ++ v ∷ []) there

module _ (s : Setting) (end : ℕ) (w : World) (low : s.job.first ≤ end) (there : world_after s.job (end - s.job.first) ≡ Ok w) where
  abbrev its : Shown
  its = record { tick = end; agents = w.agents; next = w.next }

  abbrev row : List ℕ
  row = range_with_len (shown_from s end) (end - shown_from s end)

  abbrev test : ℕ → Bool
  test t = (t == end) || (t % s.job.every == 0)

  itself : test end ≡ true
  itself = ap (λ c. c || (end % s.job.every == 0)) (eq-eqb end end refl)

  -- the world of an end is shown last there
  shown_last : last_shown (call_at s end).worlds ≡ Some its
  shown_last =
      ap last_shown
      (ap (λ xs. worlds_at s (filter test xs)) (row_one_more s end low)
      ∙ ap (worlds_at s) (filter-append test row (end ∷ []) ∙ ap (λ c. filter test row ++ cond c (end ∷ []) []) itself)
      ∙ flat_map-append (λ t. world_shown t (world_after s.job (t - s.job.first))) (filter test row) (end ∷ [])
      ∙ ap (λ r. worlds_at s (filter test row) ++ (world_shown end r ++ [])) there)
      ∙ last_item (worlds_at s (filter test row)) its

  saved_here : (shown : List Shown) → is_end s end ≡ true → last_shown shown ≡ Some its → saved_world s end shown ≡ Some w
  saved_here shown ends is = rw ends (rw is (rw (eq-eqb end end refl) refl))

-- so it is saved
pub all_saved : (s : Setting) (end : ℕ) (w : World) → Contains (ends s) end → world_after s.job (end - s.job.first) ≡ Ok w → saved_world s end (call_at s end).worlds ≡ Some w
all_saved s end w has there =
    let (among, is) = seen_in (is_end s) (range_with_len s.job.first (s.job.last + 1 - s.job.first)) end has in
    let (low, high) = in_row s.job.first (s.job.last + 1 - s.job.first) end among in
    saved_here s end w low there (call_at s end).worlds is (shown_last s end w low there)
