-- What a part has behind a step is what the next one needs.
use Rattle.std.proofs.Common.{◌≡◌, ◌∙◌, refl, sym, ap, subst, ℕ, ◌+◌, ◌-◌, ◌<◌, ◌≤◌, List, [], ◌∷◌, ◌++◌, Bool, true, false, Option, Some, None, ◌==◌, ◌&&◌, arith, inl, inr}
use Rattle.std.specs.Prelude.{slice_get, nat_lt, if◌then◌else◌}
use Rattle.std.specs.List.{list_any}
use Rattle.std.proofs.lemmas.Bool.{cases_lt, true≢false}
use Rattle.std.proofs.lemmas.Bool.Decides.{nat_tests}
use Rattle.brace_model.specs.declared.fault.Fault.{Fault}
use Rattle.brace_model.specs.FaultOrder.{least}
use Rattle.brace_model.specs.declared.world.Agent.{Agent}
use Rattle.brace_model.specs.World.{World}
use Rattle.brace_model.specs.Next.{has_births}
use Rattle.brace_model.proofs.FaultLemmas.{least_none}
use Rattle.brace_fold.specs.Listed.{AreStored}
use Rattle.brace_pieces.specs.declared.setting.Setting.{Setting}
use Rattle.brace_pieces.specs.declared.setting.Stage.{Stage}
use Rattle.brace_pieces.specs.declared.setting.Stage.TheVariants as stage
use Rattle.brace_pieces.specs.declared.setting.Step.{Step}
use Rattle.brace_pieces.specs.Settings.{cuts_of, cuts_shown, is_end}
use Rattle.brace_pieces.specs.Steps.{step, is_recut, steps}
use Rattle.brace_pieces.specs.Continued.{on, birth_faults}
use Rattle.brace_pieces.specs.Finds.{queries_found, updates_found, finds}
use Rattle.brace_pieces.specs.Right.{IsFaultless}
use Rattle.brace_pieces.specs.inner.Walks.{steps_from, ticks_from, behind_effects, behind_move}
use Rattle.brace_pieces.proofs.EpochLemmas.{same_cuts, shown_behind, shown_first, last_ends}
use Rattle.brace_pieces.proofs.WalkLemmas.{next_in, next_is, is_low, no_tick, first_of_tick, first_behind_tick}
use Rattle.brace_herd.specs.declared.stance.Stance.{Stance}
use Rattle.brace_herd.specs.declared.stance.Stance.TheVariants.{Owns, Leaves}
use Rattle.brace_herd.specs.Works.{own_under, own_before, found_in_work}
use Rattle.brace_herd.specs.Ready.{own_in, IsReadyFor, IsReadyBehind}
use Rattle.brace_part.specs.inner.Ready.{IsReady, IsNextAt, next_behind, IsFaultlessBefore, IsFaultlessAt}
use Rattle.brace_pieces.proofs.StepLemmas.{OfRun, of_run}
use Rattle.brace_pieces.proofs.Childless.{no_birth_faults, same_next, none_have, none_born}
use Rattle.brace_pieces.proofs.OnLemmas.{on_next}

-- ---- cuts of a tick at which no line begins

and_second : (a b : Bool) → a ≡ true → (a && b) ≡ false → b ≡ false
and_second true b is none = none
and_second false b is none = absurd (true≢false (sym is))

-- where other cuts hold from a tick on it is not the first
pub recut_behind : (s : Setting) (t : ℕ) → is_recut s t ≡ true → s.job.first < t
recut_behind s t is = by_test (nat_lt s.job.first t) refl is
  where
    low : nat_lt s.job.first t ≡ true → s.job.first < t
    low e = grind (arith, nat_tests, e)

    by_test : (v : Bool) → nat_lt s.job.first t ≡ v → (v && list_any (λ line. line.tick == t) s.cuts.lines) ≡ true → s.job.first < t
    by_test true e is = low e
    by_test false e is = absurd (true≢false (sym is))

-- where no other cuts hold they are those before
pub not_recut : (s : Setting) (t u : ℕ) → t ≡ u + 1 → s.job.first ≤ u → is_recut s t ≡ false → cuts_of s t ≡ cuts_of s u
not_recut s t u is low none =
    same_cuts s t u is (and_second (nat_lt s.job.first t) (list_any (λ line. line.tick == t) s.cuts.lines) (is_low s.job.first t (omega (arith, is, low))) none)

-- ---- the step behind one

-- what is so of each first step of a tick is so of the first step from that tick on
pub begins : (s : Setting) (t : ℕ) (Q : Option Step → Type 0) → t ≤ s.job.last
    → (t < s.job.last → is_recut s t ≡ true → Q (Some (step stage.Hand t)))
    → (t < s.job.last → is_recut s t ≡ false → Q (Some (step stage.Border t)))
    → (t ≡ s.job.last → Q None) → Q (slice_get (ticks_from s t) 0)
begins s t Q high hand border none = elim (cases_lt t s.job.last) [
  | inl low ↦ subst Q (first_of_tick s t low) (by_test low (is_recut s t) refl)
  | inr up ↦ subst Q (no_tick s t up) (none (omega (arith, high, up)))
]
  where
    by_test : t < s.job.last → (v : Bool) → is_recut s t ≡ v → Q (if v then Some (step stage.Hand t) else Some (step stage.Border t))
    by_test low true is = hand low is
    by_test low false is = border low is

pub reaches : (s : Setting) (t : ℕ) (Q : Option Step → Type 0) → t ≤ s.job.last
    → (is_end s t ≡ true → Q (Some (step stage.Show t)))
    → (is_end s t ≡ false → is_recut s t ≡ true → Q (Some (step stage.Hand t)))
    → (is_end s t ≡ false → is_recut s t ≡ false → Q (Some (step stage.Border t)))
    → Q (slice_get (steps_from s t) 0)
reaches s t Q high show hand border = subst Q (first_behind_tick s t) (by_test (is_end s t) refl)
  where
    by_test : (v : Bool) → is_end s t ≡ v → Q (if v then Some (step stage.Show t) else slice_get (ticks_from s t) 0)
    by_test true is = show is
    by_test false is = begins s t Q high (λ low. hand is) (λ low. border is) (λ last. absurd (true≢false (sym (last_ends s t last) ∙ is)))

pub behind_low : (s : Setting) (t : ℕ) → t < s.job.last → slice_get (steps_from s (t + 1)) 0 ≡ behind_move s t
behind_low s t low = sym (ap (λ c. if c then slice_get (steps_from s (t + 1)) 0 else None) (is_low t s.job.last low))

-- ---- what a part has

module _ (s : Setting) (p : ℕ) where
  -- by whether the program has births
  pub by_births : (Q : Stage → Type 0) → Q stage.Census → (has_births s.job.program ≡ false → Q stage.Move) → Q (behind_effects s)
  by_births Q bears none = by_test (has_births s.job.program) refl
    where
      by_test : (b : Bool) → has_births s.job.program ≡ b → Q (if b then stage.Census else stage.Move)
      by_test true is = bears
      by_test false is = none is

  -- what a part has behind its updates is, without births, what it has behind a census
  no_births : (t : ℕ) → s.job.first ≤ t → has_births s.job.program ≡ false → (stance : Stance) → IsReadyFor s p stage.Census t stance → IsReadyFor s p stage.Move t stance
  no_births t low none (Leaves left born next) has = record {
    lives = has.lives;
    born_so = has.bears ∙ none_have s none t (on s t).agents (own_in s p t) ∙ sym (none_born s none t (on s t) (own_in s p t));
    next_is = has.same_next ∙ sym (same_next s none t (on s t)) ∙ sym (ap (λ (w : World). w.next) (on_next s t low));
  }
  no_births t low none (Owns own) has = absurd has
  no_births t low none _ has = absurd has

  updated_ready : (t : ℕ) → s.job.first ≤ t → (stance : Stance) → IsReadyFor s p stage.Census t stance → IsReadyFor s p (behind_effects s) t stance
  updated_ready t low stance has = by_births (λ at. IsReadyFor s p at t stance) has (λ none. no_births t low none stance has)

  moved_ready : (u : ℕ) → s.job.first ≤ u → u < s.job.last → (stance : Stance) → IsReadyBehind s p stage.Move u stance → IsReady s p (behind_move s u) stance
  moved_ready u low high (Owns own) has =
      let back : u ≡ u + 1 - 1 = omega arith in
      let Own : List Agent → Type 0 = λ l. AreStored s.job.program l own in
      subst (λ o. IsReady s p o (Owns own)) (behind_low s u high)
      (reaches s (u + 1) (λ o. IsReady s p o (Owns own)) (omega (arith, high))
      (λ ends. subst (λ cuts. Own (own_under s p cuts (u + 1)))
      (sym (shown_behind s (u + 1) u refl low)) has)
      (λ other recut. subst (λ c. Own (own_under s p (cuts_of s c) (u + 1))) back has)
      (λ other none. subst (λ cuts. Own (own_under s p cuts (u + 1)))
      (sym (not_recut s (u + 1) u refl low none)) has))
  moved_ready u low high _ has = absurd has

  shown_ready : (t : ℕ) → s.job.first ≤ t → t ≤ s.job.last → (stance : Stance) → IsReadyFor s p stage.Show t stance → IsReady s p (slice_get (ticks_from s t) 0) stance
  shown_ready t low high (Owns own) has =
      begins s t (λ o. IsReady s p o (Owns own)) high
      (λ below recut. let first = recut_behind s t recut in subst
      (λ cuts. AreStored s.job.program (own_under s p cuts t) own)
      (shown_behind s t (t - 1) (omega (arith, first)) (omega (arith, first))) has)
      (λ below none. subst (λ cuts. AreStored s.job.program (own_under s p cuts t) own)
      (by_first none) has)
      (λ last. subst (λ u. AreStored s.job.program (own_before s p stage.Show u) own) last has)
    where
      by_first : is_recut s t ≡ false → cuts_shown s t ≡ cuts_of s t
      by_first none = elim (cases_lt s.job.first t) [
        | inl first ↦ shown_behind s t (t - 1) (omega (arith, first)) (omega (arith, first)) ∙ sym (not_recut s t (t - 1) (omega (arith, first)) (omega (arith, first)) none)
        | inr other ↦ shown_first s t (omega (arith, other, low))
      ]
  shown_ready t low high _ has = absurd has

  next_ready : (st : Stage) (t : ℕ) → OfRun s st t → (stance : Stance) → IsReadyBehind s p st t stance → IsReady s p (next_in s st t) stance
  next_ready stage.Border t run stance has = by_invert s.invert has
    where
      by_invert : (b : Bool) → IsReadyFor s p (if b then stage.Census else stage.Effects) t stance → IsReadyFor s p (if b then behind_effects s else stage.Effects) t stance
      by_invert true has = updated_ready t run.low stance has
      by_invert false has = has
  next_ready stage.Effects t run stance has = updated_ready t run.low stance has
  next_ready stage.Move t run stance has = moved_ready t run.low (run.below (λ e. absurd (cc))) stance has
  next_ready stage.Show t run stance has = shown_ready t run.low run.high stance has
  next_ready _ t run stance has = has

  -- what a part has behind its work in a step is what the next one needs
  pub ready_next : (k : ℕ) (at : Step) → slice_get (steps s) k ≡ Some at → (stance : Stance) → IsReadyBehind s p at.stage at.tick stance → IsReady s p (slice_get (steps s) (k + 1)) stance
  ready_next k at is stance has = subst (λ o. IsReady s p o stance) (next_is s k at is) (next_ready at.stage at.tick (of_run s k at is) stance has)

  -- ---- the next free id

  moved_next : (u : ℕ) → s.job.first ≤ u → u < s.job.last → (stance : Stance) (old : ℕ) → IsReadyFor s p stage.Move u stance → IsNextAt s (behind_move s u) (next_behind stage.Move stance old)
  moved_next u low high (Leaves left born next) old has =
      subst (λ o. IsNextAt s o next) (behind_low s u high)
      (reaches s (u + 1) (λ o. IsNextAt s o next) (omega (arith, high)) (λ e. has.next_is) (λ e r. has.next_is) (λ e r. has.next_is))
  moved_next u low high _ old has = absurd has

  next_next : (st : Stage) (t : ℕ) → OfRun s st t → (stance : Stance) (old : ℕ) → IsReadyFor s p st t stance → old ≡ (on s t).next → IsNextAt s (next_in s st t) (next_behind st stance old)
  next_next stage.Move t run stance old has is = moved_next t run.low (run.below (λ e. absurd (cc))) stance old has
  next_next stage.Show t run stance old has is = begins s t (λ o. IsNextAt s o old) run.high (λ low r. is) (λ low r. is) (λ last. tt)
  next_next _ t run stance old has is = is

  -- the next free id behind a step is that of the next one's tick
  pub numbered_next : (k : ℕ) (at : Step) → slice_get (steps s) k ≡ Some at → (stance : Stance) (old : ℕ) → IsReadyFor s p at.stage at.tick stance → old ≡ (on s at.tick).next
      → IsNextAt s (slice_get (steps s) (k + 1)) (next_behind at.stage stance old)
  numbered_next k at is stance old has next = subst (λ o. IsNextAt s o (next_behind at.stage stance old)) (next_is s k at is) (next_next at.stage at.tick (of_run s k at is) stance old has next)

  -- behind a move it is that of the next tick
  pub numbered_moved : (t : ℕ) (stance : Stance) (old : ℕ) → IsReadyFor s p stage.Move t stance → next_behind stage.Move stance old ≡ (on s (t + 1)).next
  numbered_moved t (Leaves left born next) old has = has.next_is
  numbered_moved t _ old has = absurd has

  -- ---- which faults it found

  both_none : (xs ys : List Fault) → xs ++ ys ≡ [] → (xs ≡ []) × (ys ≡ [])
  both_none [] ys e = (refl, e)
  both_none (x ∷ xs) ys e = absurd (cc)

  found_none : (xs : List Fault) → least xs ≡ None → xs ≡ []
  found_none xs e = (least_none xs).0 e

  abbrev queries : ℕ → List Fault
  queries t = queries_found s t p (on s t).agents

  abbrev updates : ℕ → List Fault
  updates t = updates_found s t p (on s t).agents

  abbrev births : ℕ → List Fault
  births t = birth_faults s t (on s t)

  finds_none : (t : ℕ) → queries t ≡ [] → updates t ≡ [] → births t ≡ [] → finds s t p ≡ []
  finds_none t asked told born =
      ap (λ xs. xs ++ updates t ++ births t) asked ∙ ap (λ xs. [] ++ xs ++ births t) told ∙ ap (λ xs. [] ++ [] ++ xs) born

  one_more : (t : ℕ) → IsFaultless s t p → finds s t p ≡ [] → IsFaultless s (t + 1) p
  one_more t before here u low high = elim (cases_lt u t) [
    | inl less ↦ before u low less
    | inr up ↦ let same : t ≡ u = omega (arith, up, high) in subst (λ v. finds s v p ≡ []) same here
  ]

  behind_updates : (t : ℕ) → IsFaultless s t p → queries t ≡ [] → updates t ≡ [] → IsFaultlessBefore s p (behind_effects s) t
  behind_updates t before asked told =
      by_births (λ at. IsFaultlessBefore s p at t) (before, (asked, told)) (λ none. one_more t before (finds_none t asked told (no_birth_faults s none t (on s t))))

  behind_queries : (t : ℕ) (b : Bool) → IsFaultless s t p → least (queries t ++ (if b then updates t else [])) ≡ None → IsFaultlessBefore s p (if b then behind_effects s else stage.Effects) t
  behind_queries t true before none =
      let (asked, told) = both_none (queries t) (updates t) (found_none (queries t ++ updates t) none) in
      behind_updates t before asked told
  behind_queries t false before none =
      let (asked, told) = both_none (queries t) [] (found_none (queries t ++ []) none) in (before, asked)

  next_faultless : (st : Stage) (t : ℕ) → OfRun s st t → IsFaultlessBefore s p st t → least (found_in_work s p st t) ≡ None → IsFaultlessAt s p (next_in s st t)
  next_faultless stage.Hand t run before none = before
  next_faultless stage.Border t run before none = behind_queries t s.invert before none
  next_faultless stage.Effects t run before none = behind_updates t before.0 before.1 (found_none (updates t) none)
  next_faultless stage.Census t run before none = one_more t before.0 (finds_none t before.1.0 before.1.1 (found_none (births t) none))
  next_faultless stage.Move t run before none =
      let high = run.below (λ e. absurd (cc)) in
      subst (IsFaultlessAt s p) (behind_low s t high)
      (reaches s (t + 1) (IsFaultlessAt s p) (omega (arith, high)) (λ e. before) (λ e r. before) (λ e r. before))
  next_faultless stage.Show t run before none = begins s t (IsFaultlessAt s p) run.high (λ low r. before) (λ low r. before) (λ last. tt)

  -- a part that found no fault before a step nor in its work found none before the next one
  pub faultless_next : (k : ℕ) (at : Step) → slice_get (steps s) k ≡ Some at → IsFaultlessBefore s p at.stage at.tick → least (found_in_work s p at.stage at.tick) ≡ None → IsFaultlessAt s p (slice_get (steps s) (k + 1))
  faultless_next k at is before none = subst (IsFaultlessAt s p) (next_is s k at is) (next_faultless at.stage at.tick (of_run s k at is) before none)
