-- A part comes from its work to the next step.
use Rattle.std.proofs.Common.{◌≡◌, ◌∙◌, refl, sym, ap, ap₂, subst, ℕ, ◌+◌, ◌≤◌, List, [], ◌∷◌, ◌++◌, Bool, true, false, None}
use Rattle.std.specs.Prelude.{slice_get, if◌then◌else◌}
use Rattle.std.proofs.lemmas.List.Elements.{All-nil, All-cons, All-append}
use Rattle.brace_model.specs.FaultOrder.{least}
use Rattle.brace_pieces.specs.declared.setting.Setting.{Setting}
use Rattle.brace_pieces.specs.declared.setting.Stage.{Stage}
use Rattle.brace_pieces.specs.declared.setting.Stage.TheVariants as stage
use Rattle.brace_pieces.specs.declared.setting.Step.{Step}
use Rattle.brace_pieces.specs.declared.piece.Shown.{Shown}
use Rattle.brace_pieces.specs.Steps.{steps}
use Rattle.brace_pieces.specs.Continued.{on}
use Rattle.brace_herd.specs.declared.query.Queries.{Queries}
use Rattle.brace_herd.specs.declared.stance.Stance.{Stance}
use Rattle.brace_herd.specs.declared.stance.Stance.TheVariants.{Owns}
use Rattle.brace_part.specs.declared.standing.Standing.{Standing}
use Rattle.brace_herd.specs.Works.{own_under, found_in_work}
use Rattle.brace_part.specs.Parts.{kept_at, keeps_before}
use Rattle.brace_herd.specs.Ready.{IsReadyFor, IsReadyBehind}
use Rattle.brace_part.specs.inner.Ready.{IsNextAt, next_behind, AreKept}
use Rattle.brace_herd.specs.Workers.{IsPartOf}
use Rattle.brace_part.specs.inner.Sound.{IsAtWork, ComesTo, owns_in}
use Rattle.brace_pieces.proofs.StepLemmas.{of_run}
use Rattle.brace_pieces.proofs.EpochLemmas.{shown_behind}
use Rattle.brace_part.proofs.NextLemmas.{ready_next, faultless_next, numbered_next, numbered_moved}
use Rattle.brace_herd.proofs.CellLemmas.{stored_are}
use Rattle.brace_part.proofs.ShownLemmas.{is_noted, one_noted, brings_next}

-- what a part notes of a tick
abbrev pub note_of : Setting → ℕ → Stance → ℕ → Shown
note_of s t stance next =
    record { tick = t; agents = owns_in s.job.program stance; next = next }

module _ (s : Setting) (p : ℕ) (t : ℕ) (low : s.job.first ≤ t) (next : ℕ) (next_is : next ≡ (on s (t + 1)).next) where
  -- behind a move it is its part of that world
  pub note_right : (stance : Stance) → IsReadyBehind s p stage.Move t stance
      → note_of s (t + 1) stance next ≡ kept_at s p (t + 1)
  note_right (Owns own) has =
      ap₂ (λ agents n. record { tick = t + 1; agents = agents; next = n })
      (stored_are s.job.program _ own has
      ∙ sym (ap (λ cuts. own_under s p cuts (t + 1)) (shown_behind s (t + 1) t refl low)))
      next_is
  note_right _ has = absurd has

-- worlds that it keeps stay so where it notes one more
pub kept_more : (s : Setting) (p : ℕ) (old : List Shown) (x : Shown) (c : Bool) → AreKept s p old → x ≡ kept_at s p x.tick → AreKept s p (old ++ (if c then x ∷ [] else []))
kept_more s p old x true kept is = All-append (λ w. w ≡ kept_at s p w.tick) old (x ∷ []) kept (All-cons (λ w. w ≡ kept_at s p w.tick) x [] is (All-nil (λ w. w ≡ kept_at s p w.tick)))
kept_more s p old x false kept is = All-append (λ w. w ≡ kept_at s p w.tick) old [] kept (All-nil (λ w. w ≡ kept_at s p w.tick))

module _ (s : Setting) (p : ℕ) (queries : Queries) (part : IsPartOf s p queries) (k : ℕ) (at : Step) (old : Standing) (h : IsAtWork s p k at old) where
  -- the next free id behind its work
  abbrev next : ℕ
  next = next_behind at.stage old.stance old.next

  abbrev noted_more : Stance → List Shown
  noted_more stance =
      old.shown ++ (if is_noted s (at.tick + 1) then note_of s
      (at.tick + 1) stance next ∷ [] else [])

  next_moved : at.stage ≡ stage.Move → next ≡ (on s (at.tick + 1)).next
  next_moved move =
      ap (λ st. next_behind st old.stance old.next) move
      ∙ numbered_moved s p at.tick old.stance old.next (subst (λ st. IsReadyFor s p st at.tick old.stance) move h.ready)

  note_at : (stance : Stance) → at.stage ≡ stage.Move → IsReadyBehind s p at.stage at.tick stance
      → note_of s (at.tick + 1) stance next ≡ kept_at s p (at.tick + 1)
  note_at stance move has = note_right s p at.tick (of_run s k at h.stands).low next (next_moved move) stance (subst (λ st. IsReadyBehind s p st at.tick stance) move has)

  pub kept_behind : (stance : Stance) → at.stage ≡ stage.Move → IsReadyBehind s p at.stage at.tick stance → AreKept s p old.shown → AreKept s p (noted_more stance)
  kept_behind stance move has kept = kept_more s p old.shown (note_of s (at.tick + 1) stance next)
      (is_noted s (at.tick + 1)) kept (note_at stance move has)

  -- it comes to the next step with what that needs
  pub comes_next : (new : Standing) → new.next ≡ next → IsReadyBehind s p at.stage at.tick new.stance → least (found_in_work s p at.stage at.tick) ≡ None
      → (at.stage ≡ stage.Move → new.shown ≡ noted_more new.stance) → ((at.stage ≡ stage.Move → ⊥) → new.shown ≡ old.shown) → new.counts ≡ old.counts → ComesTo s p (k + 1) (slice_get (steps s) (k + 1)) new
  comes_next new number behind none moved stays counts = record {
    ready = ready_next s p k at h.stands new.stance behind;
    next_is = subst (IsNextAt s (slice_get (steps s) (k + 1))) (sym number) (numbered_next s p k at h.stands old.stance old.next h.ready h.next_is);
    faultless = faultless_next s p k at h.stands h.faultless none;
    brings = brings_next s p k at h.stands old.shown new.shown h.keeps
        (λ move. moved move ∙ one_noted s p at.tick (at.tick + 1) old.shown
        (note_of s (at.tick + 1) new.stance next) refl (of_run s k at h.stands).low
        (note_at new.stance move behind)
        (subst (λ st. old.shown ≡ keeps_before s p st at.tick) move h.keeps)) stays;
    counted = counts ∙ h.counted;
  }

  -- all worlds that it keeps behind a work are its parts of them
  pub kept_next : (stance : Stance) (new : List Shown) → IsReadyBehind s p at.stage at.tick stance → AreKept s p old.shown
      → (at.stage ≡ stage.Move → new ≡ noted_more stance) → ((at.stage ≡ stage.Move → ⊥) → new ≡ old.shown) → AreKept s p new
  kept_next stance new has kept moved stays = by_stage at.stage refl
    where
      other : ((at.stage ≡ stage.Move → ⊥)) → AreKept s p new
      other differs = subst (AreKept s p) (sym (stays differs)) kept

      by_stage : (st : Stage) → at.stage ≡ st → AreKept s p new
      by_stage stage.Move is = subst (AreKept s p) (sym (moved is)) (kept_behind stance is has kept)
      by_stage stage.Hand is = other (λ e. hand (sym is ∙ e))
        where
          hand : stage.Hand ≡ stage.Move → ⊥
          hand e = cc
      by_stage stage.Border is = other (λ e. border (sym is ∙ e))
        where
          border : stage.Border ≡ stage.Move → ⊥
          border e = cc
      by_stage stage.Effects is = other (λ e. effects (sym is ∙ e))
        where
          effects : stage.Effects ≡ stage.Move → ⊥
          effects e = cc
      by_stage stage.Census is = other (λ e. census (sym is ∙ e))
        where
          census : stage.Census ≡ stage.Move → ⊥
          census e = cc
      by_stage stage.Show is = other (λ e. show (sym is ∙ e))
        where
          show : stage.Show ≡ stage.Move → ⊥
          show e = cc

-- the same where the setting and the part are known by other names
pub kept_there : (s : Setting) (p : ℕ) (queries : Queries) → IsPartOf s p queries → (k : ℕ) (at : Step) (old : Standing) → IsAtWork s p k at old → AreKept s p old.shown
    → (r u : Setting) (q : ℕ) (stance : Stance) (new : List Shown) → r ≡ s → u ≡ s → q ≡ p → IsReadyBehind r q at.stage at.tick stance
    → (at.stage ≡ stage.Move → new ≡ old.shown ++
    (if is_noted u (at.tick + 1) then note_of u (at.tick + 1) stance
    (next_behind at.stage old.stance old.next) ∷ [] else []))
    → ((at.stage ≡ stage.Move → ⊥) → new ≡ old.shown) → AreKept s p new
kept_there s p queries part k at old h kept r u q stance new first second third has moved stays =
    kept_next s p queries part k at old h stance new
    (subst (λ r. IsReadyBehind r p at.stage at.tick stance) first (subst (λ q. IsReadyBehind r q at.stage at.tick stance) third has)) kept
    (λ m. subst (λ (r : Setting). new ≡ old.shown ++
    (if is_noted r (at.tick + 1) then note_of r (at.tick + 1) stance
    (next_behind at.stage old.stance old.next) ∷ [] else [])) second (moved m)) stays
