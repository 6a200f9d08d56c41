-- Where epochs end, since which tick agents are shown there, and under which cuts.
use Rattle.std.proofs.Common.{◌≡◌, ◌∙◌, refl, sym, ap, ap₂, subst, ℕ, zero, suc, ◌+◌, ◌-◌, ◌<◌, ◌≤◌, List, [], ◌∷◌, ◌++◌, filter, fold, Bool, true, false, cond, None, Some, ◌==◌, ◌||◌, ◌&&◌, arith, inl, inr}
use Rattle.std.specs.Prelude.{slice_get, nat_lt, nat_le, ◌%◌, if◌then◌else◌, option_map, unwrap_or}
use Rattle.std.specs.List.{Contains, last_or, range_with_len, list_any}
use Rattle.std.proofs.lemmas.Bool.{cases_lt, cases_eq, eq-eqb, ne_eqb, or_parts, or_from, true≢false}
use Rattle.std.proofs.lemmas.Bool.Decides.{nat_tests}
use Rattle.std.proofs.lemmas.List.Elements.{filter-append}
use Rattle.std.proofs.lemmas.List.Sums.{fold-append}
use Rattle.brace_cuts.specs.declared.plan.CutLine.{CutLine}
use Rattle.brace_cuts.specs.CutPlans.{IsPlan}
use Rattle.brace_cuts.specs.Space.{no_cuts}
use Rattle.brace_invert.proofs.Heard.{seen_in}
use Rattle.brace_pieces.specs.declared.setting.Setting.{Setting}
use Rattle.brace_pieces.specs.Settings.{LawfulSetting, cuts_of, cuts_shown, is_end, ends, shown_from, shown_ticks}
use Rattle.brace_pieces.proofs.WalkLemmas.{is_low}
use Rattle.brace_num.proofs.Lists.{in_filter}
use Rattle.brace_num.proofs.Rows.{in_row, row_has, row_more}

-- ---- numbers in a row

pub row_one : (n a : ℕ) → range_with_len a (suc n) ≡ range_with_len a n ++ (a + n) ∷ []
row_one n a = row_more a n

-- ---- cuts of a tick at which no line begins

none_here : (a t u : ℕ) → t ≡ u + 1 → (a == t) ≡ false → nat_le a t ≡ nat_le a u
none_here a t u is other = grind (arith, nat_tests, is, other)

as_before : (lines : List CutLine) (t u : ℕ) → t ≡ u + 1 → list_any (λ line. line.tick == t) lines ≡ false → filter (λ line. nat_le line.tick t) lines ≡ filter (λ line. nat_le line.tick u) lines
as_before [] t u is none = refl
as_before (line ∷ lines) t u is none =
    let (here, rest) = or_parts (line.tick == t) (list_any (λ line. line.tick == t) lines) none in
    ap₂ (λ c xs. cond c (line ∷ xs) xs) (none_here line.tick t u is here) (as_before lines t u is rest)

pub same_cuts : (s : Setting) (t u : ℕ) → t ≡ u + 1 → list_any (λ line. line.tick == t) s.cuts.lines ≡ false → cuts_of s t ≡ cuts_of s u
same_cuts s t u is none = ap (λ lines. unwrap_or (option_map (λ line. line.cuts) (last_or None lines)) no_cuts) (as_before s.cuts.lines t u is none)

-- the cuts under which all is shown
pub shown_behind : (s : Setting) (t u : ℕ) → t ≡ u + 1 → s.job.first ≤ u → cuts_shown s t ≡ cuts_of s u
shown_behind s t u is low =
    let back : t - 1 ≡ u = omega (arith, is) in
    ap (λ c. cuts_of s (if c then t - 1 else s.job.first)) (is_low s.job.first t (omega (arith, is, low))) ∙ ap (cuts_of s) back

pub shown_first : (s : Setting) (t : ℕ) → t ≡ s.job.first → cuts_shown s t ≡ cuts_of s t
shown_first s t is =
    let none : nat_lt s.job.first t ≡ false = grind (arith, nat_tests, is) in
    ap (λ c. cuts_of s (if c then t - 1 else s.job.first)) none ∙ ap (cuts_of s) (sym is)

-- ---- where epochs end

pub last_ends : (s : Setting) (t : ℕ) → t ≡ s.job.last → is_end s t ≡ true
last_ends s t is = grind (arith, nat_tests, is)

-- an epoch ends in the last tick of a run
pub last_is_end : (s : Setting) → s.job.first ≤ s.job.last → Contains (ends s) s.job.last
last_is_end s up =
    let last : ℕ = s.job.last in
    in_filter (is_end s) (range_with_len s.job.first (last + 1 - s.job.first)) last (row_has s.job.first (last + 1 - s.job.first) last up (omega (arith, up))) (last_ends s last refl)

module _ (s : Setting) where
  abbrev behind : ℕ → ℕ → ℕ
  behind from k = k + 1

  pub from_one : (t u : ℕ) → u ≡ t + 1 → s.job.first ≤ t → shown_from s u ≡ cond (is_end s t) (t + 1) (shown_from s t)
  from_one t u is low =
      let first : ℕ = s.job.first in
      let n : ℕ = t - first in
      let row : List ℕ = range_with_len first n in
      let more : u - first ≡ suc n = omega (arith, is, low) in
      let there : first + n ≡ t = omega (arith, low) in
      ap (λ m. fold behind first (filter (is_end s) (range_with_len first m))) more
      ∙ ap (λ xs. fold behind first (filter (is_end s) xs)) (row_one n first ∙ ap (λ v. row ++ v ∷ []) there)
      ∙ ap (fold behind first) (filter-append (is_end s) row (t ∷ []))
      ∙ fold-append behind first (filter (is_end s) row) (cond (is_end s t) (t ∷ []) [])
      ∙ by_test (is_end s t)
    where
      by_test : (c : Bool) → fold behind (shown_from s t) (cond c (t ∷ []) []) ≡ cond c (t + 1) (shown_from s t)
      by_test true = refl
      by_test false = refl

  pub from_first : (t : ℕ) → t ≤ s.job.first → shown_from s t ≡ s.job.first
  from_first t low =
      let none : t - s.job.first ≡ 0 = omega (arith, low) in
      ap (λ m. fold behind s.job.first (filter (is_end s) (range_with_len s.job.first m))) none

  pub record Since (t : ℕ) : Type 0 where
    pub low : s.job.first ≤ shown_from s t
    pub high : shown_from s t ≤ t
    pub no_end : (v : ℕ) → shown_from s t ≤ v → v < t → is_end s v ≡ false

  one_since : (t u : ℕ) → u ≡ t + 1 → s.job.first ≤ t → (c : Bool) → is_end s t ≡ c → shown_from s u ≡ cond c (t + 1) (shown_from s t) → Since t → Since u
  one_since t u is low true ends from h = record {
    low = omega (arith, from, low);
    high = omega (arith, from, is);
    no_end = λ v up down. absurd (omega (arith, from, is, up, down));
  }
  one_since t u is low false ends from h = record {
    low = omega (arith, from, h.low);
    high = omega (arith, from, is, h.high);
    no_end = λ v up down. elim (cases_lt v t) [
      | inl less ↦ h.no_end v (omega (arith, from, up)) less
      | inr same ↦ let at : t ≡ v = omega (arith, is, down, same) in subst (λ w. is_end s w ≡ false) at ends
    ];
  }

  since_after : (n t : ℕ) → t ≡ s.job.first + n → Since t
  since_after zero t is =
      let first : t ≡ s.job.first = omega (arith, is) in
      let from = from_first t (omega (arith, first)) in
      record { low = omega (arith, from); high = omega (arith, from, first); no_end = λ v up down. absurd (omega (arith, from, first, up, down)) }
  since_after (suc n) t is =
      let before : ℕ = s.job.first + n in
      one_since before t (omega (arith, is)) (omega arith) (is_end s before) refl (from_one before t (omega (arith, is)) (omega arith)) (since_after n before refl)

  -- the ticks since the end before one
  pub since : (t : ℕ) → s.job.first ≤ t → Since t
  since t low = since_after (t - s.job.first) t (omega (arith, low))

  -- ---- no other cuts hold within an epoch

  first_there : (lines : List CutLine) (n : ℕ) (line : CutLine) → slice_get lines n ≡ Some line → (f : CutLine) × (slice_get lines 0 ≡ Some f)
  first_there [] n line e = absurd (cc)
  first_there (f ∷ lines) n line e = (f, refl)

  other_tick : (a t e : ℕ) → a % e ≡ 0 → (t % e == 0) ≡ false → (a == t) ≡ false
  other_tick a t e whole part = elim (cases_eq a t) [
    | inl same ↦ absurd (true≢false (sym (eq-eqb (t % e) 0 (ap (λ n. n % e) (sym same) ∙ whole)) ∙ part))
    | inr other ↦ ne_eqb a t other
  ]

  no_line : (lines : List CutLine) (t : ℕ) → (t % s.epoch == 0) ≡ false → ((n : ℕ) (line : CutLine) → slice_get lines n ≡ Some line → line.tick % s.epoch ≡ 0) → list_any (λ line. line.tick == t) lines ≡ false
  no_line [] t part each = refl
  no_line (line ∷ lines) t part each =
      or_from (line.tick == t) (list_any (λ line. line.tick == t) lines) (other_tick line.tick t s.epoch (each 0 line refl) part) (no_line lines t part (λ n d e. each (suc n) d e))

  not_divided : (t : ℕ) → s.job.first < t → is_end s t ≡ false → (t % s.epoch == 0) ≡ false
  not_divided t low other = by_low (nat_lt s.job.first t) (is_low s.job.first t low) (or_parts (t == s.job.last) (nat_lt s.job.first t && (t % s.epoch == 0)) other).1
    where
      by_low : (c : Bool) → c ≡ true → (c && (t % s.epoch == 0)) ≡ false → (t % s.epoch == 0) ≡ false
      by_low true is e = e
      by_low false is e = absurd (true≢false (sym is))

  module _ (plan : IsPlan s.epoch s.cuts) where
    same_behind : (t : ℕ) → s.job.first ≤ t → is_end s t ≡ false → cuts_shown s t ≡ cuts_shown s (t + 1)
    same_behind t low other = elim (cases_lt s.job.first t) [
      | inl first ↦ shown_behind s t (t - 1) (omega (arith, first)) (omega (arith, first))
          ∙ sym (same_cuts s t (t - 1) (omega (arith, first)) (no_line s.cuts.lines t (not_divided t first other)
          (λ n line e. let (f, is) = first_there s.cuts.lines n line e in (plan.lines_are_lawful n f line is e).tick_ends_an_epoch)))
          ∙ sym (shown_behind s (t + 1) t refl low)
      | inr at ↦ shown_first s t (omega (arith, at, low)) ∙ sym (shown_behind s (t + 1) t refl low)
    ]

    pub same_from : (n t end : ℕ) → t + n ≡ end → s.job.first ≤ t → shown_from s end ≤ t → Since end → cuts_shown s t ≡ cuts_shown s end
    same_from zero t end is low from h = let same : t ≡ end = omega (arith, is) in ap (cuts_shown s) same
    same_from (suc n) t end is low from h =
        same_behind t low (h.no_end t from (omega (arith, is))) ∙ same_from n (t + 1) end (omega (arith, is)) (omega (arith, low)) (omega (arith, from)) h

  -- all that is shown at an end is shown under the same cuts
  pub shown_alike : (lawful : LawfulSetting s) → (end t : ℕ) → Contains (shown_ticks s end) t → cuts_shown s t ≡ cuts_shown s end
  shown_alike lawful end t shown = elim (cases_lt end s.job.first) [
    | inl before ↦ absurd (omega (arith, row.0, row.1, before, from_first end (omega (arith, before))))
    | inr up ↦
        let h = since end (omega (arith, up)) in
        let low = h.low in
        let high = h.high in
        same_from lawful.plan_is_lawful (end - t) t end (omega (arith, row.0, row.1, high)) (omega (arith, row.0, low)) row.0 h
  ]
    where
      from : ℕ
      from = shown_from s end

      row : (from ≤ t) × (t < from + (end + 1 - from))
      row = in_row from (end + 1 - from) t (seen_in (λ v. (v == end) || (v % s.job.every == 0)) (range_with_len from (end + 1 - from)) t shown).0
