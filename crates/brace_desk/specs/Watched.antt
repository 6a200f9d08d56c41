-- A publisher of rows, checkpoints and figures: what it has made, what one more call leaves, and
-- what a call leaves that fails.
use Rattle.std.specs.Prelude.{◌≡◌, ℕ, List, [], flat_map, Option, Some, None, option_map, Bool, if◌then◌else◌}
use Rattle.brace_model.specs.Published.{is_published}
use Rattle.brace_pieces.specs.declared.setting.Setting.{Setting}
use Rattle.brace_pieces.specs.declared.piece.Shown.{Shown}
use Rattle.brace_pieces.specs.Settings.{cuts_of}
use Rattle.brace_watch.specs.declared.kinds.Watch.{Watch}
use Rattle.brace_watch.specs.Texts.{watched_text}
use Rattle.brace_desk.specs.declared.publisher.PubFault.{PubFault}
use Rattle.brace_desk.specs.declared.publisher.PubFault.TheVariants as fault
use Rattle.brace_desk.specs.Filed.{Filed, held_after, stage_after, after_epoch, StoppedSaving}
use Rattle.brace_desk.specs.Filed as files
use Rattle.brace_desk.specs.Shows.{Named, file_name, saved_world}

-- what it has written and saved, the figures that it watches, and the name under which it saves
-- them
pub record Watching : Type 0 where
  pub filed : Filed
  pub watches : List Watch
  pub name : Option (List ℕ)

-- the figures of a world, where its tick is published, of all agents and of those of each box that
-- the cuts of its tick make
abbrev pub figures_at : Setting → Bool → List Watch → Shown → List ℕ
figures_at s fresh watches w =
    if is_published s.job fresh w.tick
    then watched_text s.job.program watches (cuts_of s w.tick) w.tick w.agents else []

-- the figures of some worlds
abbrev pub figures_text : Setting → Bool → List Watch → List Shown → List ℕ
figures_text s fresh watches shown = flat_map (figures_at s fresh watches) shown

-- the file of figures that is saved, where a name is given and there is a world to be saved
abbrev pub watched_file : Option (List ℕ) → List Watch → Bool → Setting → ℕ → List Shown
    → Option Named
watched_file None watches fresh s tick shown = None
watched_file (Some name) watches fresh s tick shown =
    option_map (λ world. (file_name name tick, figures_text s fresh watches shown))
    (saved_world s tick shown)

-- the file of figures of a publisher
abbrev pub figures_file : Watching → Setting → ℕ → List Shown → Option Named
figures_file w s tick shown = watched_file w.name w.watches w.filed.fresh s tick shown

-- what is left where a file is saved on top, if there is one
abbrev pub with_saved : Filed → Option Named → Filed
with_saved s file = record s { held = held_after file s.held; stage = stage_after file s.stage }

-- what a call leaves that answers Ok: the rows are written, then the checkpoint is saved, and then
-- the figures
abbrev pub after_watched : Watching → Setting → ℕ → List Shown → Watching
after_watched w s tick shown = record w {
  filed = with_saved (after_epoch w.filed s tick shown) (figures_file w s tick shown);
}

-- the same figures are watched and saved under the same name; this holds of what is written and
-- saved
pub record StillWatches (w : Watching) (left : Filed → Type 0) (v : Watching) : Type 0 where
  pub leaves : left v.filed
  pub rest : v ≡ record w { filed = v.filed }

-- what a call may leave that fails: where the figures were not saved, all rows and the checkpoint,
-- and no whole file of figures; else what a publisher of rows and checkpoints may leave
abbrev pub IsCut : Watching → Setting → ℕ → List Shown → PubFault → Watching → Type 0
IsCut w s tick shown (fault.Watch k) v =
    StillWatches w
    (StoppedSaving (after_epoch w.filed s tick shown) (figures_file w s tick shown)) v
IsCut w s tick shown fault.Write v =
    StillWatches w (files.IsCut w.filed s tick shown fault.Write) v
IsCut w s tick shown (fault.Save k) v =
    StillWatches w (files.IsCut w.filed s tick shown (fault.Save k)) v
IsCut w s tick shown fault.NoMemory v =
    StillWatches w (files.IsCut w.filed s tick shown fault.NoMemory) v
