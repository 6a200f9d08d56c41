-- Where a run's steps show all, one such step behind the other.
use Rattle.std.specs.Prelude.{ℕ, zero, suc, ◌+◌, List, [], ◌∷◌, drop, if◌then◌else◌}
use Rattle.brace_pieces.specs.declared.setting.Setting.{Setting}
use Rattle.brace_pieces.specs.declared.setting.Step.{Step}
use Rattle.brace_pieces.specs.Steps.{steps, is_show}

-- a place among the steps of a run, behind so many of them
pub record OnFronts : Type 0 where
  pub setting : Setting
  pub number : ℕ

-- how many of some steps there are up to and with the first that shows all; all, where none does
abbrev pub to_show : List Step → ℕ
to_show [] = 0
to_show (at ∷ ats) = if is_show at.stage then 1 else suc (to_show ats)

-- behind how many steps of a run as many of them have shown all; behind the last, where fewer do
abbrev pub steps_to : Setting → ℕ → ℕ
steps_to s zero = 0
steps_to s (suc n) =
    let before = steps_to s n in
    before + to_show (drop before (steps s))
