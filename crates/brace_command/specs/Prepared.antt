-- What a command comes to before its parts are run.
use Rattle.std.specs.Prelude.{◌≡◌, ◌≤◌, true, false, Option, Some, None, IfSome, Result, Ok, Err}
use Rattle.brace_io.specs.declared.shelf.Shelf as shelf_trait
use Rattle.brace_io.specs.declared.sink.Sink as sink_trait
use Rattle.brace_io.specs.Shelves.{Files}
use Rattle.brace_pieces.specs.Settings.{LawfulSetting}
use Rattle.brace_watch.specs.Watches.{AreWatches}
use Rattle.brace_words.specs.Values.{is_link}
use Rattle.brace_command.specs.declared.answer.Stopped.{Stopped}
use Rattle.brace_command.specs.declared.preparing.Work.{Work}
use Rattle.brace_command.specs.declared.preparing.Work.TheVariants as work
use Rattle.brace_command.specs.declared.load.Script.{Script}
use Rattle.brace_command.specs.declared.task.Task.{Task}
use Rattle.brace_command.specs.Answer.{shelf_call, StopsShelf, CountsShelf}
use Rattle.brace_command.specs.Commands.{Command, may_save}
use Rattle.brace_command.specs.Outcome.{CommandOutcome, Judged}
use Rattle.brace_command.specs.Settled.{stopped_status, stopped_message, is_stop, outcome_of, saves_in, saves_files, IsStopped, IsServed}

-- a script that was loaded
abbrev pub judged : Script → Judged
judged script = record { source = script.source.items; program = script.program }

-- a command goes no further than its files: it is answered so, whatever its sink is
pub record IsStoppedBefore {S : Type 0} (of_shelf : shelf_trait.Ghosts S) (command : Command)
    (shelf shelf_after : S) (stop : Stopped) : Type 0 where
  pub stopped : IsStopped (Some command) (shelf_call of_shelf shelf shelf_after)
      (stopped_message stop) (stopped_status stop)
  pub stops : is_stop (stopped_status stop) ≡ true
  pub counts : CountsShelf (shelf_call of_shelf shelf shelf_after) (stopped_status stop)
  pub halts : StopsShelf (shelf_call of_shelf shelf shelf_after) (stopped_status stop)
  pub unsaved : of_shelf.held shelf_after ≡ of_shelf.held shelf

-- a task can begin, and its outcome is the command's; only reads were made
pub record IsReady {S : Type 0} (of_shelf : shelf_trait.Ghosts S) (asked : Option Command)
    (shelf shelf_after : S) (task : Task) : Type 0 where
  pub lawful : LawfulSetting task.setting
  pub is_command : asked ≡ None → ⊥
  pub outcome : (files : Files) → of_shelf.held shelf ≡ Some files
      → CommandOutcome files asked (outcome_of task)
  pub watched : AreWatches task.setting.job.program task.watches.items
  pub saves : may_save asked ≡ saves_files (saves_in task)
  pub link : IfSome task.link (λ letters. is_link letters.now ≡ true)
  pub unsaved : of_shelf.held shelf_after ≡ of_shelf.held shelf
  pub counts : of_shelf.faults shelf_after ≡ of_shelf.faults shelf

-- the parts of a task can be run
pub record CanRun (task : Task) : Type 0 where
  pub lawful : LawfulSetting task.setting
  pub begins : task.setting.job.first ≤ task.setting.job.last
  pub watched : AreWatches task.setting.job.program task.watches.items
  pub link : IfSome task.link (λ letters. is_link letters.now ≡ true)

-- what a command, or words that ask for none, came to before its parts are run
abbrev pub IsPrepared : {S O : Type 0} → shelf_trait.Ghosts S → sink_trait.Ghosts O
    → Option Command → S → S → O → O → Result Work Stopped → Type 0
IsPrepared of_shelf of_sink asked shelf shelf_after out out_after (Err stop) =
    IsServed of_shelf of_sink asked shelf shelf_after out out_after (Err stop)
IsPrepared of_shelf of_sink asked shelf shelf_after out out_after (Ok (work.Told answer)) =
    IsServed of_shelf of_sink asked shelf shelf_after out out_after (Ok answer)
IsPrepared of_shelf of_sink asked shelf shelf_after out out_after (Ok (work.Plain task)) =
    IsReady of_shelf asked shelf shelf_after task
    × (task.setting.job.first ≤ task.setting.job.last) × (out_after ≡ out)
    × (saves_files (saves_in task) ≡ false)
IsPrepared of_shelf of_sink asked shelf shelf_after out out_after (Ok (work.Saving task)) =
    IsReady of_shelf asked shelf shelf_after task
    × (task.setting.job.first ≤ task.setting.job.last) × (out_after ≡ out)
    × (may_save asked ≡ true)
