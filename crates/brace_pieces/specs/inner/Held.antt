-- What the fields of a course keep, and those of fronts.
use Rattle.std.specs.Prelude.{◌≡◌, ℕ, ◌+◌, ◌≤◌, ℤ, List, length, Option, slice_get}
use Rattle.std.specs.Int.{int_max}
use Rattle.brace_pieces.specs.declared.setting.Step.{Step}
use Rattle.brace_pieces.specs.Settings.{LawfulSetting, greatest_reach, range, parts}
use Rattle.brace_pieces.specs.Steps.{steps}
use Rattle.brace_pieces.specs.Courses.{OnCourse, IsCourse, step_of, others_of}
use Rattle.brace_pieces.specs.Fronts.{OnFronts}

-- the setting is lawful; the step, the others and the distance are those of the place, and there
-- is room for all others
pub record IsHeld (c : OnCourse) (far : ℤ) (step : Option Step) (others : List ℕ) (room : ℕ)
    : Type 0 where
  pub is_lawful : LawfulSetting c.setting
  pub is_course : IsCourse c
  pub step_is_there : step ≡ step_of c
  pub within_steps : c.number ≤ length (steps c.setting)
  pub others_are_met : others ≡ others_of c
  pub far_is : far ≡ int_max (range c.setting) (greatest_reach c.setting.job.program)
  pub has_room : parts c.setting + 1 ≤ room

-- the setting is lawful, and the step is the one that stands there
pub record IsAtFront (f : OnFronts) (step : Option Step) : Type 0 where
  pub is_lawful : LawfulSetting f.setting
  pub within_steps : f.number ≤ length (steps f.setting)
  pub step_is_there : step ≡ slice_get (steps f.setting) f.number
