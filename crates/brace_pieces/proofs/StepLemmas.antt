-- What is known of each step of a run.
use Rattle.std.proofs.Common.{◌≡◌, refl, ℕ, zero, suc, ◌+◌, ◌-◌, ◌<◌, ◌≤◌, List, [], ◌∷◌, ◌++◌, flat_map, Bool, true, false, Some, arith}
use Rattle.std.specs.Prelude.{slice_get, not}
use Rattle.std.specs.List.{All, range_with_len}
use Rattle.std.proofs.lemmas.Bool.Decides.{nat_tests}
use Rattle.std.proofs.lemmas.List.Elements.{All-nil, All-cons, All-append, All-same}
use Rattle.brace_model.specs.Next.{has_births}
use Rattle.brace_pieces.specs.declared.setting.Setting.{Setting}
use Rattle.brace_pieces.specs.declared.setting.Stage.{Stage}
use Rattle.brace_pieces.specs.declared.setting.Stage.TheVariants as stage
use Rattle.brace_pieces.specs.declared.setting.Step.{Step}
use Rattle.brace_pieces.specs.Settings.{is_end}
use Rattle.brace_pieces.specs.Steps.{step, made_if, is_recut, show, steps_in, steps}
use Rattle.brace_pieces.proofs.PlaceLemmas.{shape}
use Rattle.brace_num.proofs.Lists.{All-place}
use Rattle.std.proofs.lemmas.Bool.{not-true}

-- a step of this stage and tick may be one of the run
pub record OfRun (s : Setting) (at : Stage) (tick : ℕ) : Type 0 where
  pub low : s.job.first ≤ tick
  pub high : tick ≤ s.job.last
  pub below : (at ≡ stage.Show → ⊥) → tick < s.job.last
  pub ends : at ≡ stage.Show → is_end s tick ≡ true
  pub apart : at ≡ stage.Effects → s.invert ≡ false
  pub recut : at ≡ stage.Hand → is_recut s tick ≡ true
  pub bears : at ≡ stage.Census → has_births s.job.program ≡ true

first_end : (s : Setting) → is_end s s.job.first ≡ true → s.job.first ≡ s.job.last
first_end s e = grind (arith, nat_tests, e)

module _ (s : Setting) where
  abbrev Ran : Step → Type 0
  Ran at = OfRun s at.stage at.tick

  made : (c : Bool) (at : Stage) (tick : ℕ) → (c ≡ true → OfRun s at tick) → All Ran (made_if c (step at tick))
  made true at tick is = All-cons Ran (step at tick) [] (is refl) (All-nil Ran)
  made false at tick is = All-nil Ran

  shown : (tick : ℕ) → s.job.first ≤ tick → (is_end s tick ≡ true → tick ≤ s.job.last) → All Ran (show s tick)
  shown tick low high = made (is_end s tick) stage.Show tick (λ ends. record {
    low = low;
    high = high ends;
    below = λ other. absurd (other refl);
    ends = λ e. ends;
    apart = λ e. absurd (cc);
    recut = λ e. absurd (cc);
    bears = λ e. absurd (cc);
  })

  module _ (t : ℕ) (low : s.job.first ≤ t) (high : t < s.job.last) where
    within : (at : Stage) → (at ≡ stage.Show → ⊥) → (at ≡ stage.Effects → s.invert ≡ false) → (at ≡ stage.Hand → is_recut s t ≡ true) → (at ≡ stage.Census → has_births s.job.program ≡ true) → OfRun s at t
    within at other apart recut bears = record {
      low = low;
      high = omega (arith, high);
      below = λ o. high;
      ends = λ e. absurd (other e);
      apart = apart;
      recut = recut;
      bears = bears;
    }

    tick_ran : All Ran (steps_in s t)
    tick_ran =
        let hand : List Step = made_if (is_recut s t) (step stage.Hand t) in
        let effects : List Step = made_if (not s.invert) (step stage.Effects t) in
        let census : List Step = made_if (has_births s.job.program) (step stage.Census t) in
        let ending : List Step = step stage.Move t ∷ show s (t + 1) in
        All-same Ran (steps_in s t) (hand ++ (step stage.Border t ∷ (effects ++ (census ++ ending)))) (shape s t)
        (All-append Ran hand (step stage.Border t ∷ (effects ++ (census ++ ending)))
        (made (is_recut s t) stage.Hand t (λ is. within stage.Hand (λ e. absurd (cc)) (λ e. absurd (cc)) (λ e. is) (λ e. absurd (cc))))
        (All-cons Ran (step stage.Border t) (effects ++ (census ++ ending))
        (within stage.Border (λ e. absurd (cc)) (λ e. absurd (cc)) (λ e. absurd (cc)) (λ e. absurd (cc)))
        (All-append Ran effects (census ++ ending)
        (made (not s.invert) stage.Effects t (λ is. within stage.Effects (λ e. absurd (cc)) (λ e. not-true s.invert is) (λ e. absurd (cc)) (λ e. absurd (cc))))
        (All-append Ran census ending
        (made (has_births s.job.program) stage.Census t (λ is. within stage.Census (λ e. absurd (cc)) (λ e. absurd (cc)) (λ e. absurd (cc)) (λ e. is)))
        (All-cons Ran (step stage.Move t) (show s (t + 1))
        (within stage.Move (λ e. absurd (cc)) (λ e. absurd (cc)) (λ e. absurd (cc)) (λ e. absurd (cc)))
        (shown (t + 1) (omega (arith, low)) (λ e. omega (arith, high))))))))

  row_ran : (from len : ℕ) → s.job.first ≤ from → (0 < len → from + len ≤ s.job.last) → All Ran (flat_map (steps_in s) (range_with_len from len))
  row_ran from zero low high = All-nil Ran
  row_ran from (suc len) low high =
      let here : from + suc len ≤ s.job.last = high (omega arith) in
      All-append Ran (steps_in s from) (flat_map (steps_in s) (range_with_len (from + 1) len)) (tick_ran from low (omega (arith, here)))
      (row_ran (from + 1) len (omega (arith, low)) (λ some. omega (arith, here)))

  all_ran : All Ran (steps s)
  all_ran =
      All-append Ran (show s s.job.first) (flat_map (steps_in s) (range_with_len s.job.first (s.job.last - s.job.first)))
      (shown s.job.first (omega arith) (λ e. let same = first_end s e in omega (arith, same)))
      (row_ran s.job.first (s.job.last - s.job.first) (omega arith) (λ some. omega (arith, some)))

  -- a step of the run is one that may be there
  pub of_run : (k : ℕ) (at : Step) → slice_get (steps s) k ≡ Some at → OfRun s at.stage at.tick
  of_run k at is = All-place Ran (steps s) k at all_ran is
