-- The files that a run saves at each end of an epoch that it reaches: the world, and the figures
-- that are watched.
use Rattle.std.specs.Prelude.{ℕ, ◌+◌, ◌-◌, List, [], ◌∷◌, ◌++◌, map, flat_map, fold, Bool, if◌then◌else◌, Option, Some, None, Result, Ok, Err}
use Rattle.brace_io.specs.Shelves.{Files}
use Rattle.brace_model.specs.declared.fault.Fault.{Fault}
use Rattle.brace_model.specs.World.{World}
use Rattle.brace_model.specs.Run.{world_after}
use Rattle.brace_model.specs.Published.{is_published, text_of_ticks}
use Rattle.brace_pieces.specs.declared.setting.Setting.{Setting}
use Rattle.brace_pieces.specs.Settings.{cuts_of, shown_ticks, ends}
use Rattle.brace_watch.specs.declared.kinds.Watch.{Watch}
use Rattle.brace_watch.specs.Texts.{watched_text}
use Rattle.brace_desk.specs.Filed.{with_file}
use Rattle.brace_desk.specs.Shows.{Named, checkpoint_file, file_name}

-- what is saved: the worlds of ends, where a name is given for them, and these figures, where
-- another one is given
pub record Saves : Type 0 where
  pub save : Option (List ℕ)
  pub watch : Option (List ℕ)
  pub watches : List Watch

-- a file that is saved, and all the text that is written before it
pub record Saving : Type 0 where
  pub file : Named
  pub behind : List ℕ

-- the figures of a tick, where the run reaches it and it is published: those of all agents and of
-- those of each box that the cuts of the tick make
abbrev pub figures_of : Setting → Bool → List Watch → ℕ → Result World Fault → List ℕ
figures_of s fresh watches tick (Ok world) =
    if is_published s.job fresh tick
    then watched_text s.job.program watches (cuts_of s tick) tick world.agents else []
figures_of s fresh watches tick (Err f) = []

-- the figures of all ticks since the end before
abbrev pub figures_to : Setting → Bool → List Watch → ℕ → List ℕ
figures_to s fresh watches end =
    flat_map (λ t. figures_of s fresh watches t (world_after s.job (t - s.job.first)))
    (shown_ticks s end)

-- the checkpoint of the world of an end, where a name is given
abbrev pub checkpoint_at : Option (List ℕ) → Setting → ℕ → World → List Named
checkpoint_at None s end world = []
checkpoint_at (Some name) s end world = checkpoint_file name s end world ∷ []

-- the figures up to an end, where a name is given
abbrev pub figures_at : Option (List ℕ) → List Watch → Bool → Setting → ℕ → List Named
figures_at None watches fresh s end = []
figures_at (Some name) watches fresh s end =
    (file_name name end, figures_to s fresh watches end) ∷ []

-- the files of an end, of which the figures come last
abbrev pub files_at : Saves → Bool → Setting → ℕ → World → List Named
files_at saves fresh s end world =
    checkpoint_at saves.save s end world ++ figures_at saves.watch saves.watches fresh s end

-- the files of an end, behind the rows of all ticks up to it; none where the run has no world
abbrev pub savings_at : Saves → Bool → Setting → ℕ → Result World Fault → List Saving
savings_at saves fresh s end (Ok world) =
    let text = text_of_ticks s.job fresh (1 + (end - s.job.first)) in
    map (λ file. record { file = file; behind = text }) (files_at saves fresh s end world)
savings_at saves fresh s end (Err f) = []

-- the files of all ends
abbrev pub savings : Saves → Bool → Setting → List Saving
savings saves fresh s =
    flat_map (λ end. savings_at saves fresh s end (world_after s.job (end - s.job.first))) (ends s)

-- what is held once some files are saved
abbrev pub with_saved : Files → List Saving → Files
with_saved files saved = fold (λ held saving. with_file saving.file held) files saved
