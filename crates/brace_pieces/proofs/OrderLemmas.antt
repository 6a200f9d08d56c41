-- In which order the steps of a run stand, and which of them show all.
use Rattle.std.proofs.Common.{◌≡◌, ◌∙◌, ◌⊎◌, refl, sym, ap, ap₂, subst, ℕ, zero, suc, ◌+◌, ◌-◌, ◌*◌, ◌<◌, ◌≤◌, List, [], ◌∷◌, ◌++◌, map, filter, flat_map, get_or, All, Contains, Bool, true, false, cond, Some, arith, inl, inr}
use Rattle.std.specs.Prelude.{slice_get, not, if◌then◌else◌}
use Rattle.std.specs.List.{range_with_len}
use Rattle.std.proofs.lemmas.Bool.{cases_lt, cases_eq, true≢false}
use Rattle.std.proofs.lemmas.Option.{slice_get-get_or}
use Rattle.std.proofs.lemmas.Bool.Decides.{nat_tests}
use Rattle.std.proofs.lemmas.List.{map-append}
use Rattle.std.proofs.lemmas.List.Elements.{filter-append, Contains-append_left, Contains-append_right}
use Rattle.brace_num.proofs.Lists.{in_first, in_more}
use Rattle.brace_num.proofs.Rows.{row_has}
use Rattle.brace_model.specs.declared.fault.Fault.{Fault}
use Rattle.brace_model.specs.declared.fault.Phase.{Phase}
use Rattle.brace_model.specs.declared.fault.Phase.TheVariants.{Query, Update, Birth}
use Rattle.brace_model.specs.FaultOrder.{phase_rank}
use Rattle.brace_model.specs.Next.{has_births}
use Rattle.brace_pieces.specs.declared.setting.Setting.{Setting}
use Rattle.brace_pieces.specs.declared.setting.Stage.{Stage}
use Rattle.brace_pieces.specs.declared.setting.Stage.TheVariants.{Hand, Border, Effects, Census, Move, Show}
use Rattle.brace_pieces.specs.declared.setting.Step.{Step}
use Rattle.brace_pieces.specs.Settings.{is_end, ends}
use Rattle.brace_pieces.specs.Steps.{step, made_if, is_recut, show, is_show, steps_in, steps}
use Rattle.brace_pieces.specs.Finds.{stage_of, found_at}
use Rattle.brace_pieces.specs.Halts.{StandsFirst}
use Rattle.brace_pieces.proofs.Origins.{flat_map_of}
use Rattle.brace_pieces.proofs.PlaceLemmas.{some_is, shape}

-- ---- a number that rises from step to step

abbrev place_in_tick : Stage → ℕ
place_in_tick Show = 0
place_in_tick Hand = 1
place_in_tick Border = 2
place_in_tick Effects = 3
place_in_tick Census = 4
place_in_tick Move = 5

few_places : (at : Stage) → place_in_tick at ≤ 5
few_places Show = omega arith
few_places _ = omega arith

behind_show : (at : Stage) → (at ≡ Show → ⊥) → 1 ≤ place_in_tick at
behind_show Show other = absurd (other refl)
behind_show _ other = omega arith

-- the stage of a phase is not before that of an earlier phase
update_place : (invert : Bool) → (2 ≤ place_in_tick (if invert then Border else Effects)) × (place_in_tick (if invert then Border else Effects) ≤ 4)
update_place true = (omega arith, omega arith)
update_place false = (omega arith, omega arith)

later_stage : (s : Setting) (p q : Phase) → phase_rank p ≤ phase_rank q → place_in_tick (stage_of s p) ≤ place_in_tick (stage_of s q)
later_stage s Query Query up = omega arith
later_stage s Query Update up = (update_place s.invert).0
later_stage s Query Birth up = omega arith
later_stage s Update Query up = absurd (omega (arith, up))
later_stage s Update Update up = omega arith
later_stage s Update Birth up = (update_place s.invert).1
later_stage s Birth Query up = absurd (omega (arith, up))
later_stage s Birth Update up = absurd (omega (arith, up))
later_stage s Birth Birth up = omega arith

abbrev rank : Step → ℕ
rank at = 6 * at.tick + place_in_tick at.stage

-- ranks rise from step to step, the first is not below one number, and all are below another
abbrev Between : ℕ → ℕ → List Step → Type 0
Between low high [] = low ≤ high
Between low high (x ∷ xs) = (low ≤ rank x) × Between (rank x + 1) high xs

from_lower : (less low high : ℕ) (xs : List Step) → less ≤ low → Between low high xs → Between less high xs
from_lower less low high [] le h = omega (arith, le, h)
from_lower less low high (x ∷ xs) le (here, rest) = (omega (arith, le, here), rest)

in_turn : (low middle high : ℕ) (xs ys : List Step) → Between low middle xs → Between middle high ys → Between low high (xs ++ ys)
in_turn low middle high [] ys front back = from_lower low middle high ys front back
in_turn low middle high (x ∷ xs) ys (here, front) back = (here, in_turn (rank x + 1) middle high xs ys front back)

one_made : (c : Bool) (x : Step) (low : ℕ) → low ≤ rank x → Between low (rank x + 1) (made_if c x)
one_made true x low le = (le, omega arith)
one_made false x low le = omega (arith, le)

made_first : (c : Bool) (x : Step) (xs : List Step) (low high : ℕ) → low ≤ rank x → Between (rank x + 1) high xs → Between low high (made_if c x ++ xs)
made_first c x xs low high le rest = in_turn low (rank x + 1) high (made_if c x) xs (one_made c x low le) rest

up_to : (low high : ℕ) (xs : List Step) → Between low high xs → low ≤ high
up_to low high [] h = h
up_to low high (x ∷ xs) (here, rest) = omega (arith, here, up_to (rank x + 1) high xs rest)

within : (low high : ℕ) (xs : List Step) (i : ℕ) (at : Step) → Between low high xs → slice_get xs i ≡ Some at → (low ≤ rank at) × (rank at < high)
within low high [] i at h e = absurd (cc)
within low high (x ∷ xs) zero at (here, rest) e = subst (λ y. (low ≤ rank y) × (rank y < high)) (some_is x at e) (here, omega (arith, up_to (rank x + 1) high xs rest))
within low high (x ∷ xs) (suc i) at (here, rest) e = let (l, h) = within (rank x + 1) high xs i at rest e in (omega (arith, here, l), h)

ranks_rise : (low high : ℕ) (xs : List Step) (i j : ℕ) (a b : Step) → Between low high xs → i < j → slice_get xs i ≡ Some a → slice_get xs j ≡ Some b → rank a < rank b
ranks_rise low high [] i j a b h less e f = absurd (cc)
ranks_rise low high (x ∷ xs) i zero a b h less e f = absurd (omega (arith, less))
ranks_rise low high (x ∷ xs) zero (suc j) a b (here, rest) less e f =
    subst (λ y. rank y < rank b) (some_is x a e) (omega (arith, (within (rank x + 1) high xs j b rest f).0))
ranks_rise low high (x ∷ xs) (suc i) (suc j) a b (here, rest) less e f = ranks_rise (rank x + 1) high xs i j a b rest (omega (arith, less)) e f

module _ (s : Setting) where
  abbrev behind_shown : ℕ → ℕ
  behind_shown t = rank (step Show t) + 1

  tick_rises : (t : ℕ) → Between (behind_shown t) (behind_shown (t + 1)) (steps_in s t)
  tick_rises t =
      let high : ℕ = behind_shown (t + 1) in
      let ending : List Step = step Move t ∷ show s (t + 1) in
      let census : List Step = made_if (has_births s.job.program) (step Census t) ++ ending in
      let effects : List Step = made_if (not s.invert) (step Effects t) ++ census in
      subst (Between (behind_shown t) high) (sym (shape s t))
      (made_first (is_recut s t) (step Hand t) (step Border t ∷ effects) (behind_shown t) high (omega arith) (
        omega arith,
        made_first (not s.invert) (step Effects t) census (rank (step Border t) + 1) high (omega arith)
            (made_first (has_births s.job.program) (step Census t) ending (rank (step Effects t) + 1) high (omega arith)
            (omega arith, one_made (is_end s (t + 1)) (step Show (t + 1)) (rank (step Move t) + 1) (omega arith))),
      ))

  ticks_rise : (n t : ℕ) → Between (behind_shown t) (behind_shown (t + n)) (flat_map (steps_in s) (range_with_len t n))
  ticks_rise zero t = omega arith
  ticks_rise (suc n) t =
      let rest : List Step = flat_map (steps_in s) (range_with_len (t + 1) n) in
      let more : t + 1 + n ≡ t + suc n = omega arith in
      in_turn (behind_shown t) (behind_shown (t + 1)) (behind_shown (t + suc n)) (steps_in s t) rest (tick_rises t)
      (subst (λ u. Between (behind_shown (t + 1)) (behind_shown u) rest) more (ticks_rise n (t + 1)))

  steps_rise : Between (rank (step Show s.job.first)) (behind_shown (s.job.first + (s.job.last - s.job.first))) (steps s)
  steps_rise =
      let first : ℕ = s.job.first in
      let n : ℕ = s.job.last - first in
      made_first (is_end s first) (step Show first) (flat_map (steps_in s) (range_with_len first n)) (rank (step Show first)) (behind_shown (first + n)) (omega arith) (ticks_rise n first)

  step_order : (i j : ℕ) (a b : Step) → i < j → slice_get (steps s) i ≡ Some a → slice_get (steps s) j ≡ Some b → rank a < rank b
  step_order i j a b less = ranks_rise (rank (step Show s.job.first)) (behind_shown (s.job.first + (s.job.last - s.job.first))) (steps s) i j a b steps_rise less

  -- no step stands twice
  pub stands_once : (i j : ℕ) (at : Step) → slice_get (steps s) i ≡ Some at → slice_get (steps s) j ≡ Some at → i ≡ j
  stands_once i j at e f = elim (cases_eq i j) [
    | inl same ↦ same
    | inr other ↦ elim (cases_lt i j) [
      | inl less ↦ absurd (omega (arith, step_order i j at at less e f))
      | inr up ↦ absurd (omega (arith, step_order j i at at (omega (arith, up, other)) f e))
    ]
  ]

  -- behind a step of a tick only later ends are shown
  pub shows_later : (i j : ℕ) (at : Step) (end : ℕ) → slice_get (steps s) i ≡ Some at → is_show at.stage ≡ false → slice_get (steps s) j ≡ Some (step Show end) → i < j → at.tick < end
  shows_later i j at end e other f less =
      omega (arith, behind_show at.stage (λ same. true≢false (sym (ap is_show same) ∙ other)), step_order i j at (step Show end) less e f)

  -- and before it only those up to its tick
  pub shows_before : (i j : ℕ) (at : Step) (end : ℕ) → slice_get (steps s) i ≡ Some at → slice_get (steps s) j ≡ Some (step Show end) → j < i → end ≤ at.tick
  shows_before i j at end e f less = omega (arith, few_places at.stage, step_order j i (step Show end) at less f e)

  -- the steps of a run but for the shows are of its ticks
  abbrev pub Ticks : Step → Type 0
  Ticks at = (at.stage ≡ Show → ⊥) → (s.job.first ≤ at.tick) × (at.tick < s.job.last)

  pub steps_tick : All Ticks (steps s)
  steps_tick k d low other =
      let at : Step = get_or (steps s) k d in
      let (from, to) = within (rank (step Show s.job.first)) (behind_shown (s.job.first + (s.job.last - s.job.first))) (steps s) k at steps_rise (slice_get-get_or (steps s) k d low) in
      (omega (arith, from, few_places at.stage), omega (arith, from, to, few_places at.stage, behind_show at.stage other))

  -- the step in which the faults of a phase are found is one of its tick
  made_there : (c : Bool) (x : Step) → c ≡ true → Contains (made_if c x) x
  made_there true x e = in_first x []
  made_there false x e = absurd (cc)

  there_in_tick : (v : ℕ) (phase : Phase) → (phase ≡ Birth → has_births s.job.program ≡ true) → Contains (steps_in s v) (step (stage_of s phase) v)
  there_in_tick v phase has = subst (λ xs. Contains xs (step (stage_of s phase) v)) (sym (shape s v)) (Contains-append_right hand _ _ (at phase has))
    where
      hand : List Step
      hand = made_if (is_recut s v) (step Hand v)

      effects : List Step
      effects = made_if (not s.invert) (step Effects v)

      census : List Step
      census = made_if (has_births s.job.program) (step Census v)

      rest : List Step
      rest = step Move v ∷ show s (v + 1)

      by_invert : (b : Bool) → s.invert ≡ b → Contains (step Border v ∷ (effects ++ (census ++ rest))) (step (if b then Border else Effects) v)
      by_invert true is = in_first _ _
      by_invert false is = in_more _ _ _ (Contains-append_left effects _ _ (made_there (not s.invert) (step Effects v) (ap not is)))

      at : (phase : Phase) → (phase ≡ Birth → has_births s.job.program ≡ true) → Contains (step Border v ∷ (effects ++ (census ++ rest))) (step (stage_of s phase) v)
      at Query has = in_first _ _
      at Update has = by_invert s.invert refl
      at Birth has = in_more _ _ _ (Contains-append_right effects _ _ (Contains-append_left census rest _ (made_there (has_births s.job.program) (step Census v) (has refl))))

  -- it stands before that of a later fault
  pub found_first : (f : Fault) (v k : ℕ) (phase : Phase) → v ≡ s.job.first + k → k < s.job.last - s.job.first → v ≤ f.tick → (phase ≡ Birth → has_births s.job.program ≡ true) → (v ≡ f.tick → phase_rank phase ≤ phase_rank f.phase)
      → StandsFirst s (step (stage_of s phase) v) (found_at s f)
  found_first f v k phase is short low has up =
      let a : Step = step (stage_of s phase) v in
      let row = range_with_len s.job.first (s.job.last - s.job.first) in
      let (place, below, at) = Contains-append_right (show s s.job.first) (flat_map (steps_in s) row) a (flat_map_of (steps_in s) row v a (row_has s.job.first (s.job.last - s.job.first) v (omega (arith, is)) (omega (arith, is, short))) (there_in_tick v phase has)) in
      let stands : slice_get (steps s) place ≡ Some a = slice_get-get_or (steps s) place a below ∙ ap Some at in
      record {
        place = place;
        stands_there = stands;
        none_before = λ i e. elim (cases_lt i place) [
          | inl less ↦ absurd (not_earlier (cases_lt v f.tick) (step_order i place (found_at s f) a less e stands))
          | inr high ↦ high
        ];
      }
    where
      not_earlier : (v < f.tick) ⊎ (f.tick ≤ v) → rank (found_at s f) < rank (step (stage_of s phase) v) → ⊥
      not_earlier (inl less) before = omega (arith, less, before, few_places (stage_of s phase))
      not_earlier (inr at) before = let same : v ≡ f.tick = omega (arith, at, low) in omega (arith, same, before, later_stage s phase f.phase (up same))

  -- ---- the steps that show all

  abbrev shows : Step → Bool
  shows at = is_show at.stage

  left_out : (c : Bool) (at : Stage) (t : ℕ) (rest : List Step) → is_show at ≡ false → filter shows (made_if c (step at t) ++ rest) ≡ filter shows rest
  left_out true at t rest other = ap (λ v. cond v (step at t ∷ filter shows rest) (filter shows rest)) other
  left_out false at t rest other = refl

  kept_if : (c : Bool) (t : ℕ) → filter shows (made_if c (step Show t)) ≡ map (step Show) (cond c (t ∷ []) [])
  kept_if true t = refl
  kept_if false t = refl

  tick_shows : (t : ℕ) → filter shows (steps_in s t) ≡ map (step Show) (filter (is_end s) ((t + 1) ∷ []))
  tick_shows t =
      let ending : List Step = step Move t ∷ show s (t + 1) in
      let census : List Step = made_if (has_births s.job.program) (step Census t) ++ ending in
      let effects : List Step = made_if (not s.invert) (step Effects t) ++ census in
      ap (filter shows) (shape s t)
      ∙ left_out (is_recut s t) Hand t (step Border t ∷ effects) refl
      ∙ left_out (not s.invert) Effects t census refl
      ∙ left_out (has_births s.job.program) Census t ending refl
      ∙ kept_if (is_end s (t + 1)) (t + 1)

  both_show : (xs ys : List Step) (front back : List ℕ) → filter shows xs ≡ map (step Show) (filter (is_end s) front) → filter shows ys ≡ map (step Show) (filter (is_end s) back)
      → filter shows (xs ++ ys) ≡ map (step Show) (filter (is_end s) (front ++ back))
  both_show xs ys front back e f =
      filter-append shows xs ys
      ∙ ap₂ (λ us vs. us ++ vs) e f
      ∙ sym (map-append (step Show) (filter (is_end s) front) (filter (is_end s) back))
      ∙ ap (map (step Show)) (sym (filter-append (is_end s) front back))

  ticks_show : (n t : ℕ) → filter shows (flat_map (steps_in s) (range_with_len t n)) ≡ map (step Show) (filter (is_end s) (range_with_len (t + 1) n))
  ticks_show zero t = refl
  ticks_show (suc n) t =
      both_show (steps_in s t) (flat_map (steps_in s) (range_with_len (t + 1) n)) ((t + 1) ∷ []) (range_with_len (t + 1 + 1) n) (tick_shows t) (ticks_show n (t + 1))

  -- a run whose last tick is before its first has no step
  none_shown : s.job.last < s.job.first → filter shows (steps s) ≡ map (step Show) (ends s)
  none_shown down =
      let first : ℕ = s.job.first in
      let no_tick : s.job.last - first ≡ 0 = omega (arith, down) in
      let no_row : s.job.last + 1 - first ≡ 0 = omega (arith, down) in
      let no_end : is_end s first ≡ false = grind (arith, nat_tests, down) in
      ap (λ n. filter shows (show s first ++ flat_map (steps_in s) (range_with_len first n))) no_tick
      ∙ ap (λ c. filter shows (made_if c (step Show first) ++ [])) no_end
      ∙ sym (ap (λ n. map (step Show) (filter (is_end s) (range_with_len first n))) no_row)

  -- each end of an epoch has one step, in their order
  pub ends_shown : filter shows (steps s) ≡ map (step Show) (ends s)
  ends_shown = elim (cases_lt s.job.last s.job.first) [
    | inl down ↦ none_shown down
    | inr up ↦
        let first : ℕ = s.job.first in
        let n : ℕ = s.job.last - first in
        let more : suc n ≡ s.job.last + 1 - first = omega (arith, up) in
        both_show (show s first) (flat_map (steps_in s) (range_with_len first n)) (first ∷ []) (range_with_len (first + 1) n) (kept_if (is_end s first) first) (ticks_show n first)
        ∙ ap (λ k. map (step Show) (filter (is_end s) (range_with_len first k))) more
  ]
