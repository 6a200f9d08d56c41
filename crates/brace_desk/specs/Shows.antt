-- What is published, and what is saved, of the worlds that are shown at an end of a run.
use Rattle.std.specs.Prelude.{ℕ, ◌-◌, ◌==◌, List, ◌∷◌, ◌++◌, length, flat_map, slice_get, Option, Some, None, option_map, Ok, Bool, if◌then◌else◌}
use Rattle.brace_num.specs.Spelling.{canonical_count}
use Rattle.brace_model.specs.declared.job.Job.{Job}
use Rattle.brace_model.specs.World.{World, world_with}
use Rattle.brace_model.specs.Published.{tick_text}
use Rattle.brace_pieces.specs.declared.setting.Setting.{Setting}
use Rattle.brace_pieces.specs.declared.piece.Shown.{Shown}
use Rattle.brace_pieces.specs.Settings.{is_end}
use Rattle.brace_save.specs.Texts.{checkpoint}

-- a shown world as one of the run
abbrev pub as_world : Shown → World
as_world w = world_with w.agents w.next

-- the rows of those worlds whose ticks are published
abbrev pub shown_text : Job → Bool → List Shown → List ℕ
shown_text job fresh shown = flat_map (λ w. tick_text job fresh w.tick (Ok (as_world w))) shown

-- the world that is shown last
abbrev pub last_shown : List Shown → Option Shown
last_shown shown = slice_get shown (length shown - 1)

-- the world that is shown last, where it is that of a tick at which an epoch ends
abbrev pub saved_world : Setting → ℕ → List Shown → Option World
saved_world s tick shown = if is_end s tick then world_at tick (last_shown shown) else None
  where
    world_at : ℕ → Option Shown → Option World
    world_at tick None = None
    world_at tick (Some w) = if w.tick == tick then Some (as_world w) else None

-- a file: its name and its bytes
abbrev pub Named : Type 0
Named = List ℕ × List ℕ

-- `NAME.k` for the tick k
abbrev pub file_name : List ℕ → ℕ → List ℕ
file_name name tick = name ++ 46 ∷ canonical_count tick

-- the checkpoint of a tick's world, under the name of that tick
abbrev pub checkpoint_file : List ℕ → Setting → ℕ → World → Named
checkpoint_file name s tick world = (
  file_name name tick,
  checkpoint s.job.program (record { tick = tick; seed = s.job.seed; world = world }),
)

-- the file that is saved, where a name is given and there is a world to be saved
abbrev pub saved_file : Option (List ℕ) → Setting → ℕ → List Shown → Option Named
saved_file None s tick shown = None
saved_file (Some name) s tick shown =
    option_map (checkpoint_file name s tick) (saved_world s tick shown)
