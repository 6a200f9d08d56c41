-- A part that comes to a step between two ticks has the agents that it owns there.
use Rattle.std.proofs.Common.{◌≡◌, ℕ, Option, Some, None}
use Rattle.brace_pieces.specs.declared.setting.Setting.{Setting}
use Rattle.brace_pieces.specs.declared.setting.Stage.{Stage}
use Rattle.brace_pieces.specs.declared.setting.Stage.TheVariants as stage
use Rattle.brace_pieces.specs.declared.setting.Step.{Step}
use Rattle.brace_herd.specs.declared.stance.Stance.{Stance}
use Rattle.brace_herd.specs.declared.stance.Stance.TheVariants.{Owns}
use Rattle.brace_herd.specs.Works.{own_before}
use Rattle.brace_part.specs.Parts.{own_at, is_settled, IsSettled}
use Rattle.brace_herd.specs.Ready.{IsReadyFor}
use Rattle.brace_part.specs.inner.Ready.{IsReady}
use Rattle.brace_part.specs.inner.Sound.{owns_in}
use Rattle.brace_herd.proofs.CellLemmas.{stored_are}

module _ (s : Setting) (p : ℕ) where
  owns_for : (st : Stage) (t : ℕ) (stance : Stance) → is_settled st → IsReadyFor s p st t stance
      → owns_in s.job.program stance ≡ own_before s p st t
  owns_for stage.Effects t stance settled has = absurd settled
  owns_for stage.Census t stance settled has = absurd settled
  owns_for stage.Move t stance settled has = absurd settled
  owns_for _ t (Owns own) settled has = stored_are s.job.program _ own has
  owns_for _ t _ settled has = absurd has

  pub owns_at : (o : Option Step) (stance : Stance) → IsSettled o → IsReady s p o stance
      → owns_in s.job.program stance ≡ own_at s p o
  owns_at None stance settled has = owns_for stage.Show s.job.last stance tt has
  owns_at (Some at) stance settled has = owns_for at.stage at.tick stance settled has
