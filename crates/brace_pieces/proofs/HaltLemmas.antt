-- A fault that is told comes behind the run's first fault.
use Rattle.std.proofs.Common.{◌≡◌, ◌∙◌, refl, sym, ap, subst, ℕ, zero, suc, ◌+◌, ◌-◌, ◌<◌, ◌≤◌, false, Option, Some, None, Ok, Err, arith}
use Rattle.std.specs.Prelude.{slice_get}
use Rattle.std.specs.List.{Contains}
use Rattle.std.specs.Result.{result_err}
use Rattle.brace_core.specs.declared.name.Name.{Name}
use Rattle.brace_model.specs.declared.fault.Fault.{Fault}
use Rattle.brace_model.specs.declared.fault.Phase.{Phase}
use Rattle.brace_model.specs.declared.fault.Phase.TheVariants.{Query}
use Rattle.brace_model.specs.World.{World}
use Rattle.brace_model.specs.FaultOrder.{phase_rank, comes_before}
use Rattle.brace_model.specs.Step.{step}
use Rattle.brace_model.specs.Run.{world_after, stepped, first_fault}
use Rattle.brace_model.proofs.RunLemmas.{world_after-next, world_after-ended}
use Rattle.brace_pieces.specs.declared.setting.Setting.{Setting}
use Rattle.brace_pieces.specs.declared.setting.Stage.{Stage}
use Rattle.brace_pieces.specs.declared.setting.Stage.TheVariants as stage
use Rattle.brace_pieces.specs.declared.setting.Step.{Step}
use Rattle.brace_pieces.specs.declared.piece.Cause.TheVariants as cause
use Rattle.brace_pieces.specs.declared.piece.Piece.TheVariants as piece
use Rattle.brace_pieces.specs.Settings.{LawfulSetting}
use Rattle.brace_pieces.specs.Steps as at
use Rattle.brace_pieces.specs.Continued.{on}
use Rattle.brace_pieces.specs.Finds.{stage_of, found_in, found_at}
use Rattle.brace_pieces.specs.Right.{IsTold, IsRightAt, IsRightIn, IsRight}
use Rattle.brace_pieces.specs.Halts.{StandsFirst, FollowsFirst}
use Rattle.brace_pieces.proofs.WorldLemmas.{continued_is}
use Rattle.brace_pieces.proofs.FaultLemmas.{found_over, later_tick, step_is_of, step_births, ends_before}
use Rattle.brace_pieces.proofs.OrderLemmas.{found_first}

-- the last world of a run that ended, and the fault that its tick ended in
pub record Ended (s : Setting) (n : ℕ) (g : Fault) : Type 0 where
  pub ticks : ℕ
  pub before : ticks < n
  pub world : World
  pub there : world_after s.job ticks ≡ Ok world
  pub ends : step s.job.program s.job.seed (s.job.first + ticks) world ≡ Err g

pub ended : (s : Setting) (n : ℕ) (g : Fault) → world_after s.job n ≡ Err g → Ended s n g
unfolding world_after
ended s zero g e = absurd (cc)
ended s (suc n) g e = (elim (world_after s.job n) as (λ r. world_after s.job n ≡ r → stepped s.job (s.job.first + n) r ≡ Err g → Ended s (suc n) g) [
  | Ok world ↦ λ is e. record { ticks = n; before = omega arith; world = world; there = is; ends = e }
  | Err f ↦ λ is e. let same : f ≡ g = cc in let h = ended s n g (is ∙ ap Err same) in record { ticks = h.ticks; before = omega (arith, h.before); world = h.world; there = h.there; ends = h.ends }
]) refl e

pub found_same : (s : Setting) (t : ℕ) (phase : Phase) → found_in s t phase ≡ found_over s t (on s t) phase
found_same s t Query = refl
found_same s t _ = refl

module _ (s : Setting) (lawful : LawfulSetting s) (f : Fault) (low : s.job.first ≤ f.tick) (high : f.tick < s.job.last) where
  -- a run that ends in a fault in a tick has it as its first one
  is_first : (k : ℕ) (w : World) (g : Fault) → world_after s.job k ≡ Ok w → step s.job.program s.job.seed (s.job.first + k) w ≡ Err g → k < s.job.last - s.job.first → first_fault s.job ≡ Some g
  is_first k w g there ends within =
      let d : ℕ = s.job.last - s.job.first - (k + 1) in
      let length : k + 1 + d ≡ s.job.last - s.job.first = omega (arith, within) in
      let next : world_after s.job (k + 1) ≡ Err g = world_after-next s.job k w there ∙ ends in
      ap result_err (ap (world_after s.job) (sym length) ∙ world_after-ended s.job (k + 1) d g next)

  follows : (k : ℕ) (w : World) (g : Fault) → world_after s.job k ≡ Ok w → step s.job.program s.job.seed (s.job.first + k) w ≡ Err g → s.job.first + k ≤ f.tick → comes_before f g ≡ false
      → (s.job.first + k ≡ f.tick → phase_rank g.phase ≤ phase_rank f.phase) → FollowsFirst s f
  follows k w g there ends before not_less up =
      let program = lawful.job_is_lawful.program_is_lawful in
      let within : k < s.job.last - s.job.first = omega (arith, before, high) in
      let (phase, of) = step_is_of s (s.job.first + k) w program g ends in
      let place = found_first s f (s.job.first + k) k g.phase refl within before (step_births s (s.job.first + k) w program g ends) up in
      record {
        first = g;
        ends_there = is_first k w g there ends within;
        not_less = not_less;
        no_later = subst (λ t. StandsFirst s (at.step (stage_of s g.phase) t) (found_at s f)) (sym of.tick) place;
      }

  pub halt_found : Contains (found_in s f.tick f.phase) f → FollowsFirst s f
  halt_found found =
      let k : ℕ = f.tick - s.job.first in
      let same : f.tick ≡ s.job.first + k = omega (arith, low) in
      (elim (world_after s.job k) as (λ r. world_after s.job k ≡ r → FollowsFirst s f) [
        | Ok w ↦ λ is.
            let world : on s f.tick ≡ w = continued_is s k w is in
            let here : Contains (found_over s f.tick w f.phase) f = subst (λ v. Contains (found_over s f.tick v f.phase) f) world (subst (λ faults. Contains faults f) (found_same s f.tick f.phase) found) in
            let (g, e) = ends_before s f.tick w lawful.job_is_lawful.program_is_lawful f refl here in
            follows k w g is (subst (λ t. step s.job.program s.job.seed t w ≡ Err g) same e.ends) (omega (arith, same)) e.not_less (λ _. e.no_later)
        | Err g ↦ λ is.
            let h = ended s k g is in
            let (phase, of) = step_is_of s (s.job.first + h.ticks) h.world lawful.job_is_lawful.program_is_lawful g h.ends in
            let earlier : s.job.first + h.ticks < f.tick = omega (arith, same, h.before) in
            follows h.ticks h.world g h.there h.ends (omega (arith, earlier)) (later_tick f g (omega (arith, earlier, of.tick))) (λ e. absurd (omega (arith, earlier, e)))
      ]) refl

told_at : (s : Setting) (n : ℕ) (at : Stage) (tick from to : ℕ) (f : Fault) → IsRightAt s n at tick from to (piece.Halt (cause.Fault f)) → IsTold s n f
told_at s n stage.Hand tick from to f h = h
told_at s n _ tick from to f h = h

told_in : (s : Setting) (name : Name) (o : Option Step) (f : Fault) → IsRightIn s name (piece.Halt (cause.Fault f)) o → IsTold s name.step f
told_in s name None f h = absurd h
told_in s name (Some at) f h = told_at s name.step at.stage at.tick name.from name.to f h

pub halt_follows : (s : Setting) (name : Name) (f : Fault) → LawfulSetting s → IsRight s name (piece.Halt (cause.Fault f)) → FollowsFirst s f
halt_follows s name f lawful right =
    let told = told_in s name (slice_get (at.steps s) name.step) f right in
    halt_found s lawful f told.not_before told.within told.found
