-- A cause that a part has is right in each step that is left.
use Rattle.std.proofs.Common.{◌≡◌, ◌∙◌, refl, sym, ap, subst, ℕ, ◌+◌, List, [], Bool, true, false, Option, Some, None, arith, inl, inr, ⊎_elim, Contains}
use Rattle.std.specs.Prelude.{slice_get, is_some, if◌then◌else◌}
use Rattle.std.proofs.lemmas.Bool.{cases_lt, true≢false}
use Rattle.std.proofs.lemmas.List.Elements.{Contains-append_cases}
use Rattle.brace_model.specs.declared.fault.Fault.{Fault}
use Rattle.brace_model.specs.declared.fault.Phase.TheVariants.{Update}
use Rattle.brace_model.specs.FaultOrder.{least}
use Rattle.brace_model.proofs.FaultLemmas.{least_is}
use Rattle.brace_pieces.specs.declared.setting.Setting.{Setting}
use Rattle.brace_pieces.specs.declared.setting.Stage.{Stage}
use Rattle.brace_pieces.specs.declared.setting.Stage.TheVariants as stage
use Rattle.brace_pieces.specs.declared.setting.Step.{Step}
use Rattle.brace_pieces.specs.declared.piece.Cause.{Cause}
use Rattle.brace_pieces.specs.declared.piece.Cause.TheVariants as cause
use Rattle.brace_pieces.specs.declared.piece.Piece.{Piece}
use Rattle.brace_pieces.specs.declared.piece.Piece.TheVariants as piece
use Rattle.brace_pieces.specs.Settings.{LawfulSetting}
use Rattle.brace_pieces.specs.Steps.{step, steps}
use Rattle.brace_pieces.specs.Continued.{on}
use Rattle.brace_pieces.specs.Finds.{queries_found, updates_found, stage_of}
use Rattle.brace_pieces.specs.Right.{StandsBefore, IsTold, IsRightCause}
use Rattle.brace_pieces.proofs.ToldLemmas.{query_told, update_told, birth_told}
use Rattle.brace_herd.specs.Works.{found_in_work, cause_of, IsCauseOf}
use Rattle.brace_part.specs.Parts.{IsCauseBehind, IsCauseOfAll}
use Rattle.brace_pieces.specs.Exchanged.{GoesOn, IsHalted}
use Rattle.brace_pieces.specs.Turns.{cause_behind}
use Rattle.brace_pieces.proofs.StepLemmas.{OfRun, of_run}
use Rattle.brace_pieces.proofs.PlaceLemmas.{some_is}

none_in : (f : Fault) → Contains [] f → ⊥
none_in f (k, low, e) = omega (arith, low)

fault_is : (c : Cause) (f : Fault) → Some c ≡ cause_of (Some f) → c ≡ cause.Fault f
fault_is c f e = cc

no_fault : (c : Cause) → Some c ≡ cause_of None → ⊥
no_fault c e = cc

module _ (s : Setting) (lawful : LawfulSetting s) (p k : ℕ) where
  before : (st : Stage) (t : ℕ) → slice_get (steps s) k ≡ Some (step st t) → StandsBefore s (step st t) (k + 1)
  before st t stands = record { place = k; stands_there = stands; before = omega arith }

  updates_told : (st : Stage) (t : ℕ) → slice_get (steps s) k ≡ Some (step st t) → st ≡ stage_of s Update → (f : Fault) → Contains (updates_found s t p (on s t).agents) f → IsTold s (k + 1) f
  updates_told st t stands is f has = update_told s lawful t p (k + 1) f has (subst (λ x. StandsBefore s (step x t) (k + 1)) is (before st t stands))

  found_told : (st : Stage) (t : ℕ) → slice_get (steps s) k ≡ Some (step st t) → OfRun s st t → (f : Fault) → Contains (found_in_work s p st t) f → IsTold s (k + 1) f
  found_told stage.Border t stands run f has =
      let updates : List Fault = if s.invert then updates_found s t p (on s t).agents else [] in
      ⊎_elim (λ (y : Contains (queries_found s t p (on s t).agents) f). query_told s lawful t p (k + 1) f y (before stage.Border t stands))
      (λ (y : Contains updates f). by_choice s.invert refl y)
      (Contains-append_cases (queries_found s t p (on s t).agents) updates f has)
    where
      by_choice : (b : Bool) → s.invert ≡ b → Contains (if b then updates_found s t p (on s t).agents else []) f → IsTold s (k + 1) f
      by_choice true is has = updates_told stage.Border t stands (sym (ap (λ c. if c then stage.Border else stage.Effects) is)) f has
      by_choice false is has = absurd (none_in f has)
  found_told stage.Effects t stands run f has = updates_told stage.Effects t stands (sym (ap (λ c. if c then stage.Border else stage.Effects) (run.apart refl))) f has
  found_told stage.Census t stands run f has = birth_told s t (k + 1) f has (before stage.Census t stands)
  found_told _ t stands run f has = absurd (none_in f has)

  -- the cause that a work gives is right behind it
  pub cause_told : (at : Step) → slice_get (steps s) k ≡ Some at → (c : Cause) → IsCauseOf (found_in_work s p at.stage at.tick) c → IsRightCause s (k + 1) c
  cause_told at stands c (inl is) = by_least (least (found_in_work s p at.stage at.tick)) refl is
    where
      by_least : (o : Option Fault) → least (found_in_work s p at.stage at.tick) ≡ o → Some c ≡ cause_of o → IsRightCause s (k + 1) c
      by_least None e is = absurd (no_fault c is)
      by_least (Some f) e is =
          subst (IsRightCause s (k + 1)) (sym (fault_is c f is))
          (found_told at.stage at.tick stands (of_run s k at stands) f ((least_is (found_in_work s p at.stage at.tick) f).0 e).0)
  cause_told at stands c (inr none) = subst (IsRightCause s (k + 1)) (sym none) tt

-- ---- a part has a cause for what it found

-- a part that has no cause behind a piece had none before, and the piece is no Halt
pub none_behind : (o : Option Cause) (x : Piece) → cause_behind o x ≡ None → (o ≡ None) × GoesOn x
none_behind (Some c) x is = absurd (cc)
none_behind None (piece.Halt c) is = absurd (cc)
none_behind None _ is = (refl, tt)

none_some : {A : Type 0} (x : A) → None ≡ Some x → ⊥
none_some x e = cc

module _ (s : Setting) (p : ℕ) where
  -- before its first step it made no work
  pub found_first : (c : Option Cause) → IsCauseOfAll s p 0 c
  found_first c = λ k at low stands f least. absurd (omega (arith, low))

  -- a part without a cause found nothing, so that each may follow
  pub found_more : (k : ℕ) (c : Option Cause) → IsCauseOfAll s p k None → IsCauseOfAll s p k c
  found_more k c all = λ j at low stands f least. elim (all j at low stands f least) [
    | inl is ↦ absurd (none_some (cause.Fault f) is)
    | inr has ↦ absurd (none_some has.0 has.1.0)
  ]

  -- behind a piece that it took
  pub found_behind : (k : ℕ) (o : Option Cause) (x : Piece) → IsCauseOfAll s p k o → IsCauseOfAll s p k (cause_behind o x)
  found_behind k (Some c) x all = all
  found_behind k None x all = found_more k (cause_behind None x) all

  -- behind the work of one more step
  found_next : (k : ℕ) (at : Step) (c : Option Cause) → slice_get (steps s) k ≡ Some at → IsCauseOfAll s p k c → IsCauseBehind s k (found_in_work s p at.stage at.tick) c → IsCauseOfAll s p (k + 1) c
  found_next k at c is all here = λ j there low stands. elim (cases_lt j k) [
    | inl less ↦ all j there less stands
    | inr up ↦ at_last j there (omega (arith, low, up)) stands
  ]
    where
      at_last : (j : ℕ) (there : Step) → k ≡ j → slice_get (steps s) j ≡ Some there → IsCauseBehind s j (found_in_work s p there.stage there.tick) c
      at_last j there same stands =
          let step_is : at ≡ there = some_is at there (sym is ∙ ap (slice_get (steps s)) same ∙ stands) in
          subst (λ (x : Step). IsCauseBehind s j (found_in_work s p x.stage x.tick) c) step_is
          (subst (λ n. IsCauseBehind s n (found_in_work s p at.stage at.tick) c) same here)

  -- that found nothing
  pub found_passed : (k : ℕ) (at : Step) (c : Option Cause) → slice_get (steps s) k ≡ Some at → least (found_in_work s p at.stage at.tick) ≡ None → IsCauseOfAll s p k c → IsCauseOfAll s p (k + 1) c
  found_passed k at c is none all = found_next k at c is all (λ f some. absurd (none_some f (sym none ∙ some)))

  -- of a part that had a cause
  pub found_halted : (k : ℕ) (at : Step) (c : Option Cause) → slice_get (steps s) k ≡ Some at → is_some c ≡ true → IsHalted s k c → IsCauseOfAll s p k c → IsCauseOfAll s p (k + 1) c
  found_halted k at None is some right all = absurd (true≢false (sym some))
  found_halted k at (Some c) is some right all = found_next k at (Some c) is all (λ f least. inr (c, (refl, right)))

  -- that gave it its cause
  pub found_faulted : (k : ℕ) (at : Step) (c : Cause) → slice_get (steps s) k ≡ Some at → IsCauseOf (found_in_work s p at.stage at.tick) c → IsCauseOfAll s p k None → IsCauseOfAll s p (k + 1) (Some c)
  found_faulted k at c is faulted all = found_next k at (Some c) is (found_more k (Some c) all) (λ f some. elim faulted [
    | inl same ↦ inl (same ∙ ap cause_of some)
    | inr memory ↦ inr (cause.NoMemory, (ap Some memory, tt))
  ])
