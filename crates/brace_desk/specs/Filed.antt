-- A publisher of rows and checkpoints: what it has written and saved, what one more call leaves,
-- and what a call leaves that fails.
use Rattle.std.specs.Prelude.{◌≡◌, ℕ, List, Option, Some, None, option_map, Bool, true, if◌then◌else◌}
use Rattle.std.specs.Str.{bytes_eq}
use Rattle.brace_io.specs.Shelves.{Files, Stage, Idle, OnlyAt, SavedFront, StoppedAt}
use Rattle.brace_io.specs.Sinks.{with_piece, GainsFront}
use Rattle.brace_pieces.specs.declared.setting.Setting.{Setting}
use Rattle.brace_pieces.specs.declared.piece.Shown.{Shown}
use Rattle.brace_desk.specs.declared.publisher.PubFault.{PubFault}
use Rattle.brace_desk.specs.declared.publisher.PubFault.TheVariants as fault
use Rattle.brace_desk.specs.Shows.{Named, shown_text, saved_file}

-- what its output was written, where that tells it, and whether all of it was flushed; what its
-- shelf holds, where that tells it, and where it stands; the name under which it saves, and whether
-- it publishes the run's first tick
pub record Filed : Type 0 where
  pub written : Option (List ℕ)
  pub clean : Bool
  pub held : Option Files
  pub stage : Stage
  pub save : Option (List ℕ)
  pub fresh : Bool

-- files, of which one has these bytes
abbrev pub with_file : Named → Files → Files
with_file file files name = if bytes_eq name file.0 then Some file.1 else files name

-- what a shelf holds once a file is saved, if there is one
abbrev pub held_after : Option Named → Option Files → Option Files
held_after None held = held
held_after (Some file) held = option_map (with_file file) held

-- where a shelf stands once a file is saved, if there is one
abbrev pub stage_after : Option Named → Stage → Stage
stage_after None stage = stage
stage_after (Some file) stage = Idle

-- all rows are written and flushed
abbrev pub with_rows : Filed → List ℕ → Filed
with_rows s text = record s { written = with_piece s.written text; clean = true }

-- what is left where all rows are written, and then the file is saved, if there is one
abbrev pub with_both : Filed → List ℕ → Option Named → Filed
with_both s text file = record (with_rows s text) {
  held = held_after file s.held;
  stage = stage_after file s.stage;
}

-- a front of the rows was written, and nothing else changed
pub record WroteFront (s : Filed) (text : List ℕ) (t : Filed) : Type 0 where
  pub front : GainsFront s.written t.written text
  pub rest : t ≡ record s { written = t.written; clean = t.clean }

-- a shelf stopped at a file, which is as it was or has a front of its bytes; no other file changed
pub record StopsAt (before after : Option Files) (stage : Stage) (file : Named) : Type 0 where
  pub front : SavedFront before after file.0 file.1
  pub only : OnlyAt before after file.0
  pub stops : StoppedAt after stage file.0

-- there is a file to be saved, and the shelf stopped at it
abbrev pub StopsAtAny : Option Files → Option Files → Stage → Option Named → Type 0
StopsAtAny before after stage None = ⊥
StopsAtAny before after stage (Some file) = StopsAt before after stage file

-- the shelf stopped at the file, and nothing else changed
pub record StoppedSaving (s : Filed) (file : Option Named) (t : Filed) : Type 0 where
  pub stops : StopsAtAny s.held t.held t.stage file
  pub rest : t ≡ record s { held = t.held; stage = t.stage }

-- what a call leaves that answers Ok
abbrev pub after_epoch : Filed → Setting → ℕ → List Shown → Filed
after_epoch s setting tick shown =
    with_both s (shown_text setting.job s.fresh shown) (saved_file s.save setting tick shown)

-- what a call may leave that fails: some rows, where the output failed; all rows and no whole file,
-- where the file was not saved; all as it was, where there was no memory; it saves no figures
abbrev pub IsCut : Filed → Setting → ℕ → List Shown → PubFault → Filed → Type 0
IsCut s setting tick shown fault.Write t =
    WroteFront s (shown_text setting.job s.fresh shown) t
IsCut s setting tick shown (fault.Save k) t =
    StoppedSaving (with_rows s (shown_text setting.job s.fresh shown))
    (saved_file s.save setting tick shown) t
IsCut s setting tick shown (fault.Watch k) t = ⊥
IsCut s setting tick shown fault.NoMemory t = t ≡ s
