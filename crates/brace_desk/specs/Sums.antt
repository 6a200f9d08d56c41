-- Where the agents of a world stand, summed up.
use Rattle.std.specs.Prelude.{ℕ, List, fold, Option, Some, None, unwrap_or, option_map, ℤ, pos, ◌+ℤ◌}
use Rattle.brace_model.specs.declared.program.Class.{Class}
use Rattle.brace_model.specs.declared.program.Program.{Program}
use Rattle.brace_model.specs.declared.world.Agent.{Agent}
use Rattle.brace_model.specs.World.{class_of, x_of, y_of}
use Rattle.brace_pieces.specs.declared.setting.Setting.{Setting}
use Rattle.brace_pieces.specs.declared.piece.Shown.{Shown}
use Rattle.brace_desk.specs.Shows.{last_shown}

-- the coordinate of an agent, along x or along y
abbrev pub place_along : (Class → Agent → ℤ) → Program → Agent → ℤ
place_along along program a = unwrap_or (option_map (λ c. along c a) (class_of program a)) (pos 0)

-- the sum of a number over agents, which is exact
abbrev pub sum_of : (Agent → ℤ) → List Agent → ℤ
sum_of number agents = fold (λ total a. total +ℤ number a) (pos 0) agents

-- the sums of x and of y over agents, in millionths
abbrev pub sums_of : Program → List Agent → ℤ × ℤ
sums_of program agents =
    (sum_of (place_along x_of program) agents, sum_of (place_along y_of program) agents)

-- the sums over the world that is shown last, or those from before where none is shown
abbrev pub sums_after : ℤ × ℤ → Setting → ℕ → List Shown → ℤ × ℤ
sums_after sums s tick shown = sums_at sums s (last_shown shown)
  where
    sums_at : ℤ × ℤ → Setting → Option Shown → ℤ × ℤ
    sums_at sums s None = sums
    sums_at sums s (Some w) = sums_of s.job.program w.agents
