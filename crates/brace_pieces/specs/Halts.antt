-- What a fault that is told in a run says of the run's first fault.
use Rattle.std.specs.Prelude.{◌≡◌, ℕ, ◌≤◌, false, Some, slice_get}
use Rattle.brace_model.specs.declared.fault.Fault.{Fault}
use Rattle.brace_model.specs.FaultOrder.{comes_before}
use Rattle.brace_model.specs.Run.{first_fault}
use Rattle.brace_pieces.specs.declared.setting.Setting.{Setting}
use Rattle.brace_pieces.specs.declared.setting.Step.{Step}
use Rattle.brace_pieces.specs.Steps.{steps}
use Rattle.brace_pieces.specs.Finds.{found_at}

-- a step stands in a run, and another nowhere before it
pub record StandsFirst (s : Setting) (at other : Step) : Type 0 where
  pub place : ℕ
  pub stands_there : slice_get (steps s) place ≡ Some at
  pub none_before : (i : ℕ) → slice_get (steps s) i ≡ Some other → place ≤ i

-- the run ends in a first fault, which the fault is not less than, and which is found in no later
-- step
pub record FollowsFirst (s : Setting) (f : Fault) : Type 0 where
  pub first : Fault
  pub ends_there : first_fault s.job ≡ Some first
  pub not_less : comes_before f first ≡ false
  pub no_later : StandsFirst s (found_at s first) (found_at s f)
