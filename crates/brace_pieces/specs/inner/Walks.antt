-- The steps of a run behind some of them.
use Rattle.std.specs.Prelude.{ℕ, ◌+◌, ◌-◌, nat_lt, List, ◌++◌, flat_map, Option, None, slice_get, if◌then◌else◌}
use Rattle.std.specs.List.{range_with_len}
use Rattle.brace_model.specs.Next.{has_births}
use Rattle.brace_pieces.specs.declared.setting.Setting.{Setting}
use Rattle.brace_pieces.specs.declared.setting.Stage.{Stage}
use Rattle.brace_pieces.specs.declared.setting.Stage.TheVariants.{Census, Move}
use Rattle.brace_pieces.specs.declared.setting.Step.{Step}
use Rattle.brace_pieces.specs.Steps.{show, steps_in}

-- the steps of the ticks from one on
abbrev pub ticks_from : Setting → ℕ → List Step
ticks_from s tick = flat_map (steps_in s) (range_with_len tick (s.job.last - tick))

-- the steps behind those that lead to the world of a tick
abbrev pub steps_from : Setting → ℕ → List Step
steps_from s tick = show s tick ++ ticks_from s tick

-- the stage behind that in which all is said
abbrev pub behind_effects : Setting → Stage
behind_effects s = if has_births s.job.program then Census else Move

-- the step behind the move of a tick
abbrev pub behind_move : Setting → ℕ → Option Step
behind_move s tick =
    if nat_lt tick s.job.last then slice_get (steps_from s (tick + 1)) 0 else None
