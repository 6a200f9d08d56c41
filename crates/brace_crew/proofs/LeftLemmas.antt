-- What parts bring of the ticks behind the last end.
use Rattle.std.proofs.Common.{◌≡◌, ◌∙◌, refl, sym, ap, ap₂, subst, ℕ, suc, ◌<◌, ◌≤◌, ◌+◌, ◌-◌, ◌==◌, List, [], ◌∷◌, ◌++◌, map, filter, take, get_or, length, Bool, true, false, cond, Some, arith, slice_index_or}
use Rattle.std.specs.Prelude.{◌%◌, ◌↔◌, IsTrue}
use Rattle.std.specs.List.{All, Contains, find, range_with_len}
use Rattle.std.proofs.lemmas.Bool.{eqb-true, eq-eqb, ne_eqb, true≢false}
use Rattle.std.proofs.lemmas.List.{get_or_default, get_or-map, length-map, map-append}
use Rattle.std.proofs.lemmas.List.FromFn.{length-range_with_len, get_or-range_with_len}
use Rattle.std.proofs.lemmas.List.Elements.{All-map, All-contains, filter-append}
use Rattle.brace_eval.proofs.DeedLemmas.{map-more}
use Rattle.brace_pieces.specs.declared.setting.Setting.{Setting}
use Rattle.brace_pieces.specs.declared.piece.Shown.{Shown}
use Rattle.brace_pieces.specs.Settings.{LawfulSetting, is_end, parts, shown_from, shown_ticks}
use Rattle.brace_pieces.specs.Continued.{on}
use Rattle.brace_pieces.specs.Owned.{owned}
use Rattle.brace_pieces.specs.Right.{IsShown, shown}
use Rattle.brace_part.specs.inner.Ready.{AreKept}
use Rattle.brace_desk.specs.declared.desk.Lot.{Lot}
use Rattle.brace_crew.specs.declared.member.Member.{Member}
use Rattle.brace_crew.specs.Members.{course_of}
use Rattle.brace_desk.specs.Calls.{ticks_left}
use Rattle.brace_desk.specs.Lots.{world_of, brought, tick_shown}
use Rattle.brace_crew.specs.inner.Crews.{AreOf, AreParts}
use Rattle.brace_pieces.proofs.EpochLemmas.{shown_alike, from_one, from_first}
use Rattle.brace_crew.proofs.MemberLemmas.{row_more}
use Rattle.brace_num.proofs.Lists.{found_passes}
use Rattle.brace_num.proofs.Rows.{row_more as one_more}

module _ (s : Setting) (end : ℕ) (lawful : LawfulSetting s) (ticks : List ℕ) (shows : All (Contains (shown_ticks s end)) ticks) where
  -- what a part keeps
  pub kept_are : (p : ℕ) (worlds : List Shown) → AreKept s p worlds → AreOf s (tick_shown s end) p ticks worlds
  kept_are p worlds kept k d low has =
      let w : Shown = slice_index_or worlds k d in
      kept k d low
      ∙ ap (λ cuts. record { tick = w.tick; agents = owned s.job.program cuts p (on s w.tick).agents; next = (on s w.tick).next })
      (shown_alike s lawful end w.tick (All-contains (Contains (shown_ticks s end)) ticks w.tick shows has))

  -- what the desk kept of it
  pub lot_is : (kept : List Lot) (p : ℕ) (lot : Lot) → All (λ lot. IsShown s end lot.part lot.worlds) kept → Some lot ≡ find (λ lot. lot.part == p) kept
      → AreOf s (tick_shown s end) p ticks lot.worlds
  lot_is kept p lot all is =
      let h = found_passes (λ (l : Lot). l.part == p) kept lot (sym is) in
      let of : lot.part ≡ p = eqb-true lot.part p h.1 in
      let shows_it = All-contains (λ (l : Lot). IsShown s end l.part l.worlds) kept lot all h.0 in
      let worlds = shows_it.shown ∙ ap (λ q. map (shown s end q) (shown_ticks s end)) of in
      subst (AreOf s (tick_shown s end) p ticks) (sym worlds)
      (All-map (λ w. Contains ticks w.tick → w ≡ world_of s (tick_shown s end) p w.tick) (shown s end p) (shown_ticks s end) (λ k d low has. refl))

-- ---- the ticks behind the last end

module _ (s : Setting) where
  -- a step back from one at which no epoch ends
  pub back_one : (from : ℕ) → s.job.first < from → is_end s (from - 1) ≡ false → shown_from s (from - 1) ≡ shown_from s from
  back_one from low other =
      sym (from_one s (from - 1) from (omega (arith, low)) (omega (arith, low)) ∙ ap (λ c. cond c (from - 1 + 1) (shown_from s (from - 1))) other)

  -- behind an end
  pub behind_end : (from : ℕ) → s.job.first < from → is_end s (from - 1) ≡ true → shown_from s from ≡ from
  behind_end from low ends =
      let there : from - 1 + 1 ≡ from = omega (arith, low) in
      from_one s (from - 1) from (omega (arith, low)) (omega (arith, low)) ∙ ap (λ c. cond c (from - 1 + 1) (shown_from s (from - 1))) ends ∙ there

  pub at_start_of_run : (from : ℕ) → from ≤ s.job.first → s.job.first ≤ from → shown_from s from ≡ from
  at_start_of_run from high low = let same : s.job.first ≡ from = omega (arith, high, low) in from_first s from high ∙ same

  pub left_are : (from tick t : ℕ) (ticks : List ℕ) → shown_from s from ≡ from → shown_from s from ≡ shown_from s (tick + 1) → t ≡ tick + 1
      → ticks ≡ filter (λ t. t % s.job.every == 0) (range_with_len from (t - from)) → ticks ≡ ticks_left s tick
  left_are from tick t ticks here same at are =
      are ∙ ap (λ n. filter (λ t. t % s.job.every == 0) (range_with_len from (n - from))) at
      ∙ ap (λ f. filter (λ t. t % s.job.every == 0) (range_with_len f (tick + 1 - f))) (sym here ∙ same)

same_test : (r : Bool) (n : ℕ) → (IsTrue r ↔ (n ≡ 0)) → (n == 0) ≡ r
same_test true n h = eq-eqb n 0 (h.0 refl)
same_test false n h = ne_eqb n 0 (λ e. true≢false (sym (h.1 e)))

-- one more tick, where it is published
pub ticks_more : (every from t : ℕ) (ticks more : List ℕ) (r : Bool) → from ≤ t → ticks ≡ filter (λ t. t % every == 0) (range_with_len from (t - from))
    → (IsTrue r ↔ (t % every ≡ 0)) → more ≡ ticks ++ cond r (t ∷ []) [] → more ≡ filter (λ t. t % every == 0) (range_with_len from (t + 1 - from))
ticks_more every from t ticks more r low so divides is =
    let test : ℕ → Bool = λ t. t % every == 0 in
    let more_on : suc (t - from) ≡ t + 1 - from = omega (arith, low) in
    let there : from + (t - from) ≡ t = omega (arith, low) in
    is ∙ ap₂ (λ l c. l ++ cond c (t ∷ []) []) so (sym (same_test r (t % every) divides))
    ∙ sym (filter-append test (range_with_len from (t - from)) (t ∷ []))
    ∙ ap (filter test) (ap (λ v. range_with_len from (t - from) ++ v ∷ []) (sym there) ∙ sym (one_more from (t - from)) ∙ ap (range_with_len from) more_on)

-- ---- worlds out of a list

module _ (s : Setting) (held p : ℕ) (ticks : List ℕ) (worlds : List Shown) (are : AreOf s held p ticks worlds) where
  pub picked_more : (i d : ℕ) (w : Shown) (all : List Shown) → i < length ticks → Some w ≡ find (λ w. w.tick == get_or ticks i d) worlds
      → all ≡ map (world_of s held p) (take i ticks) → all ++ w ∷ [] ≡ map (world_of s held p) (take (i + 1) ticks)
  picked_more i d w all low found so =
      let t : ℕ = get_or ticks i d in
      let here : t ≡ get_or ticks i t = get_or_default ticks i d t low in
      let h = found_passes (λ (w : Shown). w.tick == t) worlds w (sym found) in
      let at : w.tick ≡ t = eqb-true w.tick t h.1 in
      let has : Contains ticks w.tick = subst (Contains ticks) (sym at) (i, low, sym here) in
      let one : w ≡ world_of s held p t =
      All-contains (λ w. Contains ticks w.tick → w ≡ world_of s held p w.tick) worlds w are h.0 has ∙ ap (world_of s held p) at in
      ap₂ (λ l x. l ++ x ∷ []) so one ∙ sym (map-more (world_of s held p) ticks i t low here)

-- ---- the members that are parts

pub part_at : {P : Type 0} (s : Setting) (members : List (Member P)) (i : ℕ) (m : Member P) → AreParts s members → i < length members → m ≡ get_or members i m
    → ((course_of m).setting ≡ s) × ((course_of m).actor ≡ i)
part_at {P} s members i m are low is =
    let f : Member P → ℕ = λ m. (course_of m).actor in
    let long = ap length are.numbers in
    let here : 0 + i ≡ i = omega arith in (
      subst (λ x. (course_of x).setting ≡ s) (sym is) (are.settings i m low),
      ap f is ∙ sym (get_or-map f members i m (f m) low) ∙ ap (λ l. get_or l i (f m)) are.numbers
          ∙ get_or-range_with_len 0 (parts s) i (f m) (omega (arith, low, length-map members f, long, length-range_with_len 0 (parts s))) ∙ here,
    )

pub lots_more : (s : Setting) (held p : ℕ) (ticks : List ℕ) (lots : List Lot) (lot : Lot) → lots ≡ map (brought s held ticks) (range_with_len 0 p) → lot.part ≡ p → lot.worlds ≡ map (world_of s held p) ticks
    → lots ++ lot ∷ [] ≡ map (brought s held ticks) (range_with_len 0 (p + 1))
lots_more s held p ticks lots lot so at are =
    let one : lot ≡ brought s held ticks p = ap (λ n. record { part = n; worlds = lot.worlds }) at ∙ ap (λ l. record { part = p; worlds = l }) are in
    ap₂ (λ l x. l ++ x ∷ []) so one
    ∙ sym (map-append (brought s held ticks) (range_with_len 0 p) (p ∷ [])) ∙ ap (map (brought s held ticks)) (row_more p)

pub lots_all : {P : Type 0} (s : Setting) (held p : ℕ) (ticks : List ℕ) (members : List (Member P)) (lots : List Lot) → AreParts s members → length members ≤ p → p ≤ length members
    → lots ≡ map (brought s held ticks) (range_with_len 0 p) → lots ≡ map (brought s held ticks) (range_with_len 0 (parts s))
lots_all {P} s held p ticks members lots are past few so =
    let f : Member P → ℕ = λ m. (course_of m).actor in
    let all : p ≡ parts s = omega (arith, past, few, length-map members f, ap length are.numbers, length-range_with_len 0 (parts s)) in
    so ∙ ap (λ n. map (brought s held ticks) (range_with_len 0 n)) all
