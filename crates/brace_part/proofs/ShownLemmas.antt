-- What a part keeps to be shown, from tick to tick.
use Rattle.std.proofs.Common.{◌≡◌, ◌∙◌, refl, sym, ap, ap₂, subst, ℕ, suc, ◌+◌, ◌-◌, ◌<◌, ◌≤◌, List, [], ◌∷◌, ◌++◌, map, filter, Bool, true, false, cond, Some, ◌==◌, ◌||◌, arith, inl, inr}
use Rattle.std.specs.Prelude.{slice_get, ◌%◌, if◌then◌else◌}
use Rattle.std.specs.List.{range_with_len}
use Rattle.std.proofs.lemmas.Bool.{cases_eq, eq-eqb, ne_eqb}
use Rattle.std.proofs.lemmas.List.{map-append}
use Rattle.std.proofs.lemmas.List.Elements.{filter-append}
use Rattle.brace_cuts.specs.CutPlans.{IsPlan}
use Rattle.brace_pieces.specs.declared.setting.Setting.{Setting}
use Rattle.brace_pieces.specs.declared.setting.Stage.{Stage}
use Rattle.brace_pieces.specs.declared.setting.Stage.TheVariants as stage
use Rattle.brace_pieces.specs.declared.setting.Step.{Step}
use Rattle.brace_pieces.specs.declared.piece.Shown.{Shown}
use Rattle.brace_pieces.specs.Settings.{is_end, shown_from, shown_ticks}
use Rattle.brace_pieces.specs.Steps.{steps}
use Rattle.brace_pieces.specs.Continued.{on}
use Rattle.brace_pieces.specs.Right as right
use Rattle.brace_pieces.specs.inner.Walks.{steps_from, behind_effects}
use Rattle.brace_pieces.proofs.EpochLemmas.{row_one, from_one, from_first, since, same_from}
use Rattle.brace_pieces.proofs.WalkLemmas.{next_in, next_is}
use Rattle.brace_herd.specs.Works.{own_under}
use Rattle.brace_part.specs.Parts.{noted, kept_at, keeps_before, brings_to, brings_at}
use Rattle.brace_pieces.proofs.StepLemmas.{OfRun, of_run}
use Rattle.brace_part.proofs.NextLemmas.{begins, reaches, behind_low, by_births}
use Rattle.brace_num.proofs.Rows.{row_alike, in_row}
use Rattle.brace_invert.proofs.Heard.{seen_in}
use Rattle.brace_num.proofs.Lists.{map_alike}

-- what is the same of each number in a row is so of those that are kept
mapped_same : {A : Type 0} (f g : ℕ → A) (t : ℕ → Bool) (n a : ℕ) → ((v : ℕ) → a ≤ v → v < a + n → f v ≡ g v) → map f (filter t (range_with_len a n)) ≡ map g (filter t (range_with_len a n))
mapped_same f g t n a same = map_alike f g (filter t (range_with_len a n)) (λ v has.
    (let there = in_row a n v (seen_in t (range_with_len a n) v has).0 in same v there.0 there.1))

module _ (s : Setting) where
  -- ---- the ticks that are shown

  abbrev pub is_noted : ℕ → Bool
  is_noted t = is_end s t || (t % s.job.every == 0)

  noted_first : (t u : ℕ) → u ≡ t + 1 → s.job.first ≤ t → is_end s t ≡ true → noted s u ≡ cond (is_noted u) (u ∷ []) []
  noted_first t u is low ends =
      let one : u + 1 - u ≡ 1 = omega arith in
      let here : t + 1 ≡ u = sym is in
      ap (λ from. filter is_noted (range_with_len from (u + 1 - from))) (from_one s t u is low ∙ ap (λ c. cond c (t + 1) (shown_from s t)) ends ∙ here)
      ∙ ap (λ n. filter is_noted (range_with_len u n)) one

  noted_more : (t u : ℕ) → u ≡ t + 1 → s.job.first ≤ t → is_end s t ≡ false → noted s u ≡ noted s t ++ cond (is_noted u) (u ∷ []) []
  noted_more t u is low other =
      let from : ℕ = shown_from s t in
      let h = since s t low in
      let high = h.high in
      let n : ℕ = t + 1 - from in
      let more : u + 1 - from ≡ suc n = omega (arith, is, high) in
      let there : from + n ≡ u = omega (arith, is, high) in
      ap (λ f. filter is_noted (range_with_len f (u + 1 - f))) (from_one s t u is low ∙ ap (λ c. cond c (t + 1) from) other)
      ∙ ap (λ m. filter is_noted (range_with_len from m)) more
      ∙ ap (filter is_noted) (row_one n from ∙ ap (λ v. range_with_len from n ++ v ∷ []) there)
      ∙ filter-append is_noted (range_with_len from n) (u ∷ [])

  noted_at_first : noted s s.job.first ≡ cond (is_noted s.job.first) (s.job.first ∷ []) []
  noted_at_first =
      let first : ℕ = s.job.first in
      let one : first + 1 - first ≡ 1 = omega arith in
      ap (λ from. filter is_noted (range_with_len from (first + 1 - from))) (from_first s first (omega arith)) ∙ ap (λ n. filter is_noted (range_with_len first n)) one

  -- where all is shown the ticks that are shown are those that were noted
  pub shown_as_noted : (t : ℕ) → s.job.first ≤ t → is_end s t ≡ true → noted s t ≡ shown_ticks s t
  shown_as_noted t low ends =
      let h = since s t low in
      let from : ℕ = shown_from s t in
      let high = h.high in
      row_alike is_noted (λ v. (v == t) || (v % s.job.every == 0)) from (t + 1 - from)
      (λ v up down. ap (λ c. c || (v % s.job.every == 0)) (elim (cases_eq v t) [
        | inl same ↦ ap (is_end s) same ∙ ends ∙ sym (eq-eqb v t same)
        | inr other ↦ h.no_end v up (omega (arith, down, high, other)) ∙ sym (ne_eqb v t other)
      ]))

  -- ---- what is shown

  module _ (plan : IsPlan s.epoch s.cuts) where
    -- what a part keeps of the ticks that are shown at an end is what it shows there
    pub kept_is_shown : (p end : ℕ) → s.job.first ≤ end → map (kept_at s p) (shown_ticks s end) ≡ map (right.shown s end p) (shown_ticks s end)
    kept_is_shown p end low =
        let h = since s end low in
        let from : ℕ = shown_from s end in
        let above = h.low in
        let below = h.high in
        mapped_same (kept_at s p) (right.shown s end p) (λ v. (v == end) || (v % s.job.every == 0)) (end + 1 - from) from
        (λ v up down. ap (λ cuts. record { tick = v; agents = own_under s p cuts v; next = (on s v).next }) (same_from s plan (end - v) v end (omega (arith, down, below)) (omega (arith, above, up)) up h))

  -- ---- what a part brings to the next step

  module _ (p : ℕ) where
    abbrev keeps : ℕ → List Shown
    keeps t = if is_end s t then [] else map (kept_at s p) (noted s t)

    -- one more tick that is noted
    pub one_noted : (t u : ℕ) (old : List Shown) (x : Shown) → u ≡ t + 1 → s.job.first ≤ t → x ≡ kept_at s p u → old ≡ keeps t
        → old ++ (if is_noted u then x ∷ [] else []) ≡ map (kept_at s p) (noted s u)
    one_noted t u old x is low same had =
        ap₂ (λ xs ys. xs ++ ys) had (by_test (is_noted u) same) ∙ by_end (is_end s t) refl
      where
        by_test : (c : Bool) → x ≡ kept_at s p u → (if c then x ∷ [] else []) ≡ map (kept_at s p) (cond c (u ∷ []) [])
        by_test true e = ap (λ y. y ∷ []) e
        by_test false e = refl

        by_end : (c : Bool) → is_end s t ≡ c → (if c then [] else map (kept_at s p) (noted s t)) ++ map (kept_at s p) (cond (is_noted u) (u ∷ []) []) ≡ map (kept_at s p) (noted s u)
        by_end true ends = ap (map (kept_at s p)) (sym (noted_first t u is low ends))
        by_end false ends = sym (map-append (kept_at s p) (noted s t) (cond (is_noted u) (u ∷ []) [])) ∙ ap (map (kept_at s p)) (sym (noted_more t u is low ends))

    pub first_noted : (x : Shown) → x ≡ kept_at s p s.job.first → (if is_noted s.job.first then x ∷ [] else []) ≡ map (kept_at s p) (noted s s.job.first)
    first_noted x same = by_test (is_noted s.job.first) ∙ ap (map (kept_at s p)) (sym noted_at_first)
      where
        by_test : (c : Bool) → (if c then x ∷ [] else []) ≡ map (kept_at s p) (cond c (s.job.first ∷ []) [])
        by_test true = ap (λ y. y ∷ []) same
        by_test false = refl

    -- what was noted up to a tick is what a part brings to its first step
    reached_brings : (u : ℕ) (new : List Shown) → s.job.first ≤ u → u ≤ s.job.last → new ≡ map (kept_at s p) (noted s u) → new ≡ brings_at s p (slice_get (steps_from s u) 0)
    reached_brings u new low high is =
        reaches s u (λ o. new ≡ brings_at s p o) high
        (λ ends. is ∙ ap (map (kept_at s p)) (shown_as_noted u low ends))
        (λ other recut. is ∙ sym (ap (λ c. if c then [] else map (kept_at s p) (noted s u)) other))
        (λ other none. is ∙ sym (ap (λ c. if c then [] else map (kept_at s p) (noted s u)) other))

    behind_updates : (t : ℕ) (new : List Shown) → new ≡ keeps t → new ≡ brings_to s p (behind_effects s) t
    behind_updates t new is = by_births s p (λ at. new ≡ brings_to s p at t) is (λ none. is)

    by_choice : (c : Bool) (t : ℕ) (new : List Shown) → new ≡ keeps t → new ≡ brings_to s p (if c then behind_effects s else stage.Effects) t
    by_choice true t new is = behind_updates t new is
    by_choice false t new is = is

    next_brings : (st : Stage) (t : ℕ) → OfRun s st t → (old new : List Shown) → old ≡ keeps_before s p st t
        → (st ≡ stage.Move → new ≡ map (kept_at s p) (noted s (t + 1))) → ((st ≡ stage.Move → ⊥) → new ≡ old) → new ≡ brings_at s p (next_in s st t)
    next_brings stage.Border t run old new had moved stays = by_choice s.invert t new (stays (λ e. absurd (cc)) ∙ had)
    next_brings stage.Effects t run old new had moved stays = behind_updates t new (stays (λ e. absurd (cc)) ∙ had)
    next_brings stage.Move t run old new had moved stays =
        let low = run.low in
        let high = run.below (λ e. absurd (cc)) in
        subst (λ o. new ≡ brings_at s p o) (behind_low s t high) (reached_brings (t + 1) new (omega (arith, low)) (omega (arith, high)) (moved refl))
    next_brings stage.Show t run old new had moved stays =
        let is : new ≡ [] = stays (λ e. absurd (cc)) ∙ had in
        begins s t (λ o. new ≡ brings_at s p o) run.high
        (λ low r. is ∙ sym (ap (λ c. if c then [] else map (kept_at s p) (noted s t)) (run.ends refl)))
        (λ low r. is ∙ sym (ap (λ c. if c then [] else map (kept_at s p) (noted s t)) (run.ends refl)))
        (λ last. is)
    next_brings _ t run old new had moved stays = stays (λ e. absurd (cc)) ∙ had

    -- what a part keeps behind a step is what it brings to the next one
    pub brings_next : (k : ℕ) (at : Step) → slice_get (steps s) k ≡ Some at → (old new : List Shown) → old ≡ keeps_before s p at.stage at.tick
        → (at.stage ≡ stage.Move → new ≡ map (kept_at s p) (noted s (at.tick + 1))) → ((at.stage ≡ stage.Move → ⊥) → new ≡ old) → new ≡ brings_at s p (slice_get (steps s) (k + 1))
    brings_next k at is old new had moved stays = subst (λ o. new ≡ brings_at s p o) (next_is s k at is) (next_brings at.stage at.tick (of_run s k at is) old new had moved stays)

    -- and what it noted at its start is what it brings to the first one
    pub brings_first : (new : List Shown) → new ≡ map (kept_at s p) (noted s s.job.first) → s.job.first ≤ s.job.last → new ≡ brings_at s p (slice_get (steps s) 0)
    brings_first new is high = reached_brings s.job.first new (omega arith) high is
