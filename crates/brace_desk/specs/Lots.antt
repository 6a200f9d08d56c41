-- What parts bring of some ticks.
use Rattle.std.specs.Prelude.{ℕ, ◌-◌, nat_lt, List, map, if◌then◌else◌}
use Rattle.brace_pieces.specs.declared.setting.Setting.{Setting}
use Rattle.brace_pieces.specs.declared.piece.Shown.{Shown}
use Rattle.brace_pieces.specs.Settings.{cuts_of}
use Rattle.brace_pieces.specs.Continued.{on}
use Rattle.brace_pieces.specs.Owned.{owned}
use Rattle.brace_desk.specs.declared.desk.Lot.{Lot}

-- the agents of a part in the world of a tick, under the cuts of a tick
abbrev pub world_of : Setting → ℕ → ℕ → ℕ → Shown
world_of s held p tick = record {
  tick = tick;
  agents = owned s.job.program (cuts_of s held) p (on s tick).agents;
  next = (on s tick).next;
}

-- what a part brings of some ticks
abbrev pub brought : Setting → ℕ → List ℕ → ℕ → Lot
brought s held ticks p = record { part = p; worlds = map (world_of s held p) ticks }

-- the tick under whose cuts all is shown at an end
abbrev pub tick_shown : Setting → ℕ → ℕ
tick_shown s end = if nat_lt s.job.first end then end - 1 else s.job.first
