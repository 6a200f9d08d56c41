-- A part comes to its first step with what that needs.
use Rattle.std.proofs.Common.{◌≡◌, ◌∙◌, refl, sym, ap, ap₂, subst, ℕ, ◌-◌, ◌<◌, ◌≤◌, List, [], ◌∷◌, ◌++◌, true, false, Some, None, arith, inl, inr}
use Rattle.std.specs.Prelude.{slice_get, nat_lt, if◌then◌else◌, is_some}
use Rattle.std.proofs.lemmas.Bool.{cases_lt}
use Rattle.std.proofs.lemmas.Bool.Decides.{nat_tests}
use Rattle.std.proofs.lemmas.List.Elements.{All-nil}
use Rattle.brace_model.specs.declared.world.Agent.{Agent}
use Rattle.brace_fold.specs.declared.order.Moved.{Moved}
use Rattle.brace_fold.specs.Listed.{AreStored}
use Rattle.brace_pieces.specs.declared.setting.Setting.{Setting}
use Rattle.brace_pieces.specs.declared.setting.Stage.TheVariants as stage
use Rattle.brace_pieces.specs.declared.piece.Shown.{Shown}
use Rattle.brace_pieces.specs.Settings.{cuts_of, is_end}
use Rattle.brace_pieces.specs.Steps.{step, steps}
use Rattle.brace_pieces.specs.Continued.{continued_after, on}
use Rattle.brace_pieces.specs.Owned.{owned}
use Rattle.brace_pieces.specs.inner.Walks.{ticks_from}
use Rattle.brace_pieces.proofs.WalkLemmas.{no_tick, first_behind_tick}
use Rattle.brace_herd.specs.declared.stance.Stance.{Stance}
use Rattle.brace_herd.specs.declared.stance.Stance.TheVariants.{Owns}
use Rattle.brace_part.specs.declared.standing.Standing.{Standing}
use Rattle.brace_herd.specs.Works.{own_under}
use Rattle.brace_part.specs.Parts.{kept_at}
use Rattle.brace_pieces.specs.Given.{no_counts}
use Rattle.brace_part.specs.inner.Ready.{IsReady, IsNextAt, IsFaultlessAt, AreKept}
use Rattle.brace_herd.specs.Ready.{IsReadyFor}
use Rattle.brace_part.specs.inner.Sound.{ComesTo}
use Rattle.brace_pieces.proofs.EpochLemmas.{shown_first}
use Rattle.brace_herd.proofs.CellLemmas.{stored_are}
use Rattle.brace_part.proofs.NextLemmas.{recut_behind, reaches}
use Rattle.brace_part.proofs.ShownLemmas.{is_noted, first_noted, brings_first}
use Rattle.brace_part.proofs.ComesLemmas.{note_of, kept_more}

-- what a part owns of the first world
pub own_first : (s : Setting) (p : ℕ) → owned s.job.program (cuts_of s s.job.first) p s.job.start.agents ≡ own_under s p (cuts_of s s.job.first) s.job.first
unfolding continued_after
own_first s p =
    let none : 0 ≡ s.job.first - s.job.first = omega arith in
    ap (λ n. owned s.job.program (cuts_of s s.job.first) p (continued_after s n).agents) none

pub own_of : (s : Setting) (p : ℕ) (own : List Agent) → own ≡ owned s.job.program (cuts_of s s.job.first) p s.job.start.agents → own ≡ own_under s p (cuts_of s s.job.first) s.job.first
own_of s p own is = is ∙ own_first s p

module _ (s : Setting) (p : ℕ) where
  abbrev first : ℕ
  first = s.job.first

  no_end : s.job.last < first → is_end s first ≡ false
  no_end down = grind (arith, nat_tests, down)

  -- where the last tick is below the first no step is there
  no_step : s.job.last < first → None ≡ slice_get (steps s) 0
  no_step down =
      no_tick s first (omega (arith, down))
      ∙ sym (ap (λ c. if c then Some (step stage.Show first) else slice_get (ticks_from s first) 0) (no_end down))
      ∙ first_behind_tick s first

  no_recut : {A : Type 0} → first < first → A
  no_recut low = absurd (omega (arith, low))

  some_step : first ≤ s.job.last → is_some (slice_get (steps s) 0) ≡ true
  some_step up = reaches s first (λ o. is_some o ≡ true) up (λ e. refl) (λ e r. refl) (λ e r. refl)

  ready_first : first ≤ s.job.last → (stance : Stance) → IsReadyFor s p stage.Border first stance → IsReady s p (slice_get (steps s) 0) stance
  ready_first up (Owns own) has =
      reaches s first (λ o. IsReady s p o (Owns own)) up
      (λ e. subst (λ cuts. AreStored s.job.program (own_under s p cuts first) own)
      (sym (shown_first s first refl)) has)
      (λ e r. no_recut (recut_behind s first r)) (λ e r. has)
  ready_first up _ has = absurd has

  ready_last : s.job.last < first → (stance : Stance) → IsReadyFor s p stage.Border first stance → IsReadyFor s p stage.Show s.job.last stance
  ready_last down (Owns own) has =
      let none : nat_lt first s.job.last ≡ false = grind (arith, nat_tests, down) in
      let same : first - first ≡ s.job.last - first = omega (arith, down) in
      subst (λ l. AreStored s.job.program l own)
      (ap (λ n. owned s.job.program (cuts_of s first) p (continued_after s n).agents) same
      ∙ sym (ap (λ c. own_under s p (cuts_of s
      (if c then s.job.last - 1 else first)) s.job.last) none)) has
  ready_last down _ has = absurd has

  faultless_first : first ≤ s.job.last → IsFaultlessAt s p (slice_get (steps s) 0)
  faultless_first up =
      reaches s first (IsFaultlessAt s p) up (λ e t low high. absurd (omega (arith, low, high)))
      (λ e r. no_recut (recut_behind s first r)) (λ e r t low high. absurd (omega (arith, low, high)))

  next_first : s.job.start.next ≡ (on s first).next
  unfolding continued_after
  next_first =
      let none : 0 ≡ first - first = omega arith in
      ap (λ n. (continued_after s n).next) none

  -- what it notes of the first tick
  abbrev pub first_note : Stance → Shown
  first_note stance = note_of s first stance s.job.start.next

  note_first : (stance : Stance) → IsReadyFor s p stage.Border first stance → first_note stance ≡ kept_at s p first
  note_first (Owns own) has =
      ap₂ (λ agents n. record { tick = first; agents = agents; next = n })
      (stored_are s.job.program _ own has
      ∙ sym (ap (λ cuts. own_under s p cuts first) (shown_first s first refl)))
      next_first
  note_first _ has = absurd has

  next_at_first : first ≤ s.job.last → (next : ℕ) → next ≡ s.job.start.next → IsNextAt s (slice_get (steps s) 0) next
  next_at_first up next is =
      reaches s first (λ o. IsNextAt s o next) up (λ e. is ∙ next_first) (λ e r. is ∙ next_first) (λ e r. is ∙ next_first)

  -- a part that owns its agents of the first tick, and noted them where a step is there
  pub comes_first : (standing : Standing) → standing.next ≡ s.job.start.next → IsReadyFor s p stage.Border first standing.stance
      → (is_some (slice_get (steps s) 0) ≡ true → standing.shown ≡ (if is_noted s first then first_note standing.stance ∷ [] else []))
      → (is_some (slice_get (steps s) 0) ≡ false → standing.shown ≡ []) → standing.counts ≡ no_counts → ComesTo s p 0 (slice_get (steps s) 0) standing
  comes_first standing number has noted none counts = elim (cases_lt s.job.last first) [
    | inl down ↦ subst (λ o. ComesTo s p 0 o standing) (no_step down) (record {
      ready = ready_last down standing.stance has;
      next_is = tt;
      faultless = tt;
      brings = none (ap is_some (sym (no_step down)));
      counted = counts;
    })
    | inr up ↦ record {
      ready = ready_first up standing.stance has;
      next_is = next_at_first up standing.next number;
      faultless = faultless_first up;
      brings = brings_first s p standing.shown
          (noted (some_step up) ∙ first_noted s p (first_note standing.stance) (note_first standing.stance has)) up;
      counted = counts;
    }
  ]

  -- and all that it keeps is its part of that world
  pub kept_first : (stance : Stance) (shown : List Shown) → IsReadyFor s p stage.Border first stance
      → shown ≡ (if is_noted s first then first_note stance ∷ [] else []) → AreKept s p shown
  kept_first stance shown has noted =
      subst (AreKept s p) (sym noted)
      (kept_more s p [] (first_note stance) (is_noted s first) (All-nil (λ w. w ≡ kept_at s p w.tick)) (note_first stance has))

-- what is noted of the first tick, by another name of the next free id
pub noted_first : (s : Setting) (stance : Stance) (shown : List Shown) (next : ℕ) → next ≡ s.job.start.next
    → shown ≡ (if is_noted s s.job.first then note_of s s.job.first stance next ∷ [] else [])
    → shown ≡ (if is_noted s s.job.first then note_of s s.job.first stance s.job.start.next ∷ []
    else [])
noted_first s stance shown next same is = subst
    (λ n. shown ≡ (if is_noted s s.job.first then note_of s s.job.first stance n ∷ [] else [])) same
    is

-- what is added to nothing is all
pub from_none : {A : Type 0} (old new more : List A) → old ≡ [] → new ≡ old ++ more → new ≡ more
from_none old new more none is = is ∙ ap (λ l. l ++ more) none

-- what is kept of the first tick, by the agents that stand in columns
abbrev pub kept_of : Setting → List Agent → ℕ → Shown
kept_of s agents next = record { tick = s.job.first; agents = agents; next = next }

pub kept_own : (s : Setting) (p : ℕ) (own : Moved) (owned : List Agent) (shown : List Shown)
    (next : ℕ) → AreStored s.job.program (own_under s p (cuts_of s s.job.first) s.job.first) own
    → owned ≡ own_under s p (cuts_of s s.job.first) s.job.first
    → shown ≡ (if is_noted s s.job.first then kept_of s owned next ∷ [] else [])
    → shown ≡ (if is_noted s s.job.first then note_of s s.job.first (Owns own) next ∷ [] else [])
kept_own s p own owned shown next stored is kept = subst
    (λ agents. shown ≡ (if is_noted s s.job.first then kept_of s agents next ∷ [] else []))
    (is ∙ sym (stored_are s.job.program _ own stored)) kept
