-- The steps of a tick, one by one.
use Rattle.std.proofs.Common.{◌≡◌, ◌∙◌, ℕ, ◌+◌, List, ◌∷◌, ◌++◌, true, false, Some, append_assoc}
use Rattle.std.specs.Prelude.{if◌then◌else◌, not}
use Rattle.brace_model.specs.declared.fault.Phase.{Phase}
use Rattle.brace_model.specs.declared.fault.Phase.TheVariants.{Query, Update, Birth}
use Rattle.brace_model.specs.Next.{has_births}
use Rattle.brace_pieces.specs.declared.setting.Setting.{Setting}
use Rattle.brace_pieces.specs.declared.setting.Stage.TheVariants.{Hand, Border, Effects, Census, Move, Show}
use Rattle.brace_pieces.specs.declared.setting.Step.{Step}
use Rattle.brace_pieces.specs.Steps.{step, made_if, is_recut, show, steps_in}
use Rattle.brace_pieces.specs.Finds.{stage_of}

pub some_is : (x y : Step) → Some x ≡ Some y → x ≡ y
some_is x y e = cc

pub no_show : (s : Setting) (phase : Phase) → Show ≡ stage_of s phase → ⊥
no_show s Query e = absurd (cc)
no_show s Update e = (elim s.invert as (λ b. Show ≡ (if b then Border else Effects) → ⊥) [
  | true ↦ λ e. absurd (cc)
  | false ↦ λ e. absurd (cc)
]) e
no_show s Birth e = absurd (cc)

-- the steps of a tick, each by itself
pub shape : (s : Setting) (v : ℕ) → steps_in s v ≡ made_if (is_recut s v) (step Hand v) ++ (step Border v ∷ (made_if (not s.invert) (step Effects v) ++ (made_if (has_births s.job.program) (step Census v) ++ (step Move v ∷ show s (v + 1)))))
shape s v =
    let hand : List Step = made_if (is_recut s v) (step Hand v) in
    let effects : List Step = made_if (not s.invert) (step Effects v) in
    let census : List Step = made_if (has_births s.job.program) (step Census v) in
    append_assoc (hand ++ (step Border v ∷ effects)) census (step Move v ∷ show s (v + 1)) ∙ append_assoc hand (step Border v ∷ effects) (census ++ (step Move v ∷ show s (v + 1)))
