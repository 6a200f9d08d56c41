-- What the parts of a command come to, before it is answered.
use Rattle.std.specs.Prelude.{◌≡◌, ℕ, List, [], Bool, true, false, ◌⊎◌, ◌||◌, Option, Some, None, option_map, is_some, Result, Ok, Err, ⊤}
use Rattle.brace_io.specs.Shelves.{Files}
use Rattle.brace_command.specs.declared.answer.Answer.{Answer}
use Rattle.brace_command.specs.declared.answer.Stopped.{Stopped}
use Rattle.brace_command.specs.declared.answer.Stopped.TheVariants as stopped
use Rattle.brace_io.specs.declared.shelf.Shelf as shelf_trait
use Rattle.brace_io.specs.declared.sink.Sink as sink_trait
use Rattle.brace_model.specs.Run.{end_of}
use Rattle.brace_command.specs.declared.command.TrialCommand.{TrialCommand as CodeTrial}
use Rattle.brace_command.specs.declared.task.Task.{Task}
use Rattle.brace_command.specs.declared.status.Status.{Status}
use Rattle.brace_command.specs.declared.status.Status.TheVariants.{Done, Usage, Script, Agents, Plan, Checkpoint, Fault, ReadFault, WriteFault, SaveFault, NoMemory, Watches}
use Rattle.brace_command.specs.Answer.{ShelfCall, SinkCall, shelf_call, sink_call, Among, IsUnread, IsUnwritten, IsGivenUp, IsEnd, IsUnsaved, IsAnswer, StopsShelf, CountsShelf, CountsReads, CountsWrites}
use Rattle.brace_command.specs.Status.{has_run, is_refusal, saves_nothing}
use Rattle.brace_command.specs.Commands.{Command, may_save}
use Rattle.brace_command.specs.Messages.{usage_message, record_message, line_message, plan_word, watch_word, point_message, stats_message, write_fault_message, no_memory_message}
use Rattle.brace_command.specs.Outcome.{Outcome, Refusal, script_message, ran, trial_end}
use Rattle.brace_command.specs.Savings.{Saves}
use Rattle.brace_command.specs.Words.{said_trial}
use Rattle.brace_cuts.specs.declared.kinds.PlanFault.{PlanFault}
use Rattle.brace_cuts.specs.declared.kinds.PlanFault.TheVariants as plan_fault
use Rattle.brace_watch.specs.declared.kinds.WatchFault.{WatchFault}
use Rattle.brace_watch.specs.declared.kinds.WatchFault.TheVariants as watch_fault
use Rattle.brace_pieces.specs.declared.counts.Counts.{Counts}
use Rattle.brace_desk.specs.declared.keeper.Keeper as keeper_trait
use Rattle.brace_save.specs.declared.kinds.PointFault.{PointFault}
use Rattle.brace_save.specs.declared.kinds.PointFault.TheVariants as point_fault
use Rattle.brace_rows.specs.declared.kinds.RowFault.{RowFault}
use Rattle.brace_rows.specs.declared.kinds.RowFault.TheVariants as row_fault
use Rattle.brace_command.specs.declared.script_fault.ScriptFault.{ScriptFault}
use Rattle.brace_command.specs.declared.script_fault.ScriptFault.TheVariants as script_fault

-- the status of a command that goes no further
abbrev pub stopped_status : Stopped → Status
stopped_status stopped.Usage = Usage
stopped_status (stopped.Refused answer) = answer.status
stopped_status stopped.WriteFault = WriteFault
stopped_status stopped.NoMemory = NoMemory

-- the message of a command that goes no further
abbrev pub stopped_message : Stopped → List ℕ
stopped_message stopped.Usage = usage_message
stopped_message (stopped.Refused answer) = answer.message.items
stopped_message stopped.WriteFault = write_fault_message
stopped_message stopped.NoMemory = no_memory_message

-- the status of a command
abbrev pub status_in : Result Answer Stopped → Status
status_in (Ok answer) = answer.status
status_in (Err e) = stopped_status e

-- the message of a command
abbrev pub message_in : Result Answer Stopped → List ℕ
message_in (Ok answer) = answer.message.items
message_in (Err e) = stopped_message e

-- the answer has this status and this message
pub record IsOf (status : Status) (message : List ℕ) (answer : Answer) : Type 0 where
  pub ends : answer.status ≡ status
  pub says : answer.message.items ≡ message

-- a file is refused so, or memory was refused
abbrev pub IsRefusedAs : Status → List ℕ → Stopped → Type 0
IsRefusedAs status message stopped.Usage = ⊥
IsRefusedAs status message (stopped.Refused answer) = IsOf status message answer
IsRefusedAs status message stopped.WriteFault = ⊥
IsRefusedAs status message stopped.NoMemory = ⊤

-- a script is refused for its fault
abbrev pub IsScriptRefused : List ℕ → List ℕ → ScriptFault → Stopped → Type 0
IsScriptRefused name src (script_fault.Refused kind at) stop =
    IsRefusedAs Script (script_message name src kind at) stop
IsScriptRefused name src script_fault.NoMemory stop = stop ≡ stopped.NoMemory

-- an agent file is refused for the fault of a record
abbrev pub IsRecordRefused : List ℕ → RowFault → Stopped → Type 0
IsRecordRefused name (row_fault.Bad number kind) stop =
    IsRefusedAs Agents (record_message name number kind) stop
IsRecordRefused name row_fault.NoMemory stop = stop ≡ stopped.NoMemory

-- a cut plan is refused for the fault of a line
abbrev pub IsPlanRefused : List ℕ → PlanFault → Stopped → Type 0
IsPlanRefused name (plan_fault.Bad number kind) stop =
    IsRefusedAs Plan (line_message name number (plan_word kind)) stop
IsPlanRefused name plan_fault.NoMemory stop = stop ≡ stopped.NoMemory

-- a watch file is refused for the fault of a line
abbrev pub IsWatchRefused : List ℕ → WatchFault → Stopped → Type 0
IsWatchRefused name (watch_fault.Bad number kind) stop =
    IsRefusedAs Watches (line_message name number (watch_word kind)) stop
IsWatchRefused name watch_fault.NoMemory stop = stop ≡ stopped.NoMemory

-- a checkpoint is refused for its fault
abbrev pub IsPointRefused : List ℕ → PointFault → Stopped → Type 0
IsPointRefused name point_fault.NoMemory stop = stop ≡ stopped.NoMemory
IsPointRefused name fault stop = IsRefusedAs Checkpoint (point_message name fault) stop

-- a command ended with this status and this message, or memory was refused for it
abbrev pub IsToldAs : Status → List ℕ → Result Answer Stopped → Type 0
IsToldAs status message (Ok answer) = IsOf status message answer
IsToldAs status message (Err stop) = stop ≡ stopped.NoMemory

-- the counts that parts gave, where they are to be told
abbrev pub told_counts : Bool → Counts → List ℕ
told_counts true c = stats_message c.border c.effects c.moved c.handed
told_counts false c = []

-- what is kept on a shelf over a call
abbrev pub keeper_call : {K : Type 0} → keeper_trait.Ghosts K → K → K → ShelfCall
keeper_call of before after = record {
  held = of.held before;
  held_after = of.held after;
  stage = of.stage after;
  faults_before = of.faults before;
  faults_after = of.faults after;
}

-- what a task saves
abbrev pub saves_in : Task → Saves
saves_in task = record {
  save = option_map (λ name. name.now) task.save;
  watch = option_map (λ name. name.now) task.watch;
  watches = task.watches.items;
}

-- a name is given under which files are saved
abbrev pub saves_files : Saves → Bool
saves_files saves = is_some saves.save || is_some saves.watch

-- the outcome of a task: of a run, or of the trial that it is
abbrev pub outcome_by : Option CodeTrial → Task → Outcome
outcome_by None task = ran task.stats (saves_in task) task.fresh task.setting
outcome_by (Some trial) task =
    trial_end (said_trial trial) task.setting (end_of task.setting.job)

abbrev pub outcome_of : Task → Outcome
outcome_of task = outcome_by task.trial task

-- the status refuses a file, or tells that it differs, with no fault of the outside
abbrev pub refuses_file : Status → Bool
refuses_file ReadFault = false
refuses_file status = is_refusal status

-- a command is stopped so before it is carried out
abbrev pub is_stop : Status → Bool
is_stop NoMemory = true
is_stop status = is_refusal status

-- a file is refused with this message, with no fault of the outside
pub record IsRefused (refusals : Files → Refusal → Type 0) (shelf : ShelfCall) (message : List ℕ)
    (status : Status) : Type 0 where
  pub stops : is_stop status ≡ true
  pub found : (files : Files) → shelf.held ≡ Some files
      → refusals files (record { status = status; message = message })

-- the file of a name gives nothing: a read of it failed, or memory was refused, or it is refused
abbrev pub GivesNothing : (Files → Refusal → Type 0) → List ℕ → ShelfCall → List ℕ → Status → Type 0
GivesNothing refusals name shelf message ReadFault = IsUnread shelf message name
GivesNothing refusals name shelf message NoMemory = message ≡ no_memory_message
GivesNothing refusals name shelf message status = IsRefused refusals shelf message status

-- the file of a name was loaded, and this is what it comes to
pub record IsLoaded {A : Type 0} (comes_to : Files → Result A Refusal → Type 0) (shelf : ShelfCall)
    (a : A) : Type 0 where
  pub found : (files : Files) → shelf.held ≡ Some files → comes_to files (Ok a)
  pub counts : shelf.faults_after ≡ shelf.faults_before

-- the file of a name was not loaded, which stops the command
pub record IsUnloaded {A : Type 0} (comes_to : Files → Result A Refusal → Type 0) (name : List ℕ)
    (shelf : ShelfCall) (stopped : Stopped) : Type 0 where
  pub nothing : GivesNothing (λ files r. comes_to files (Err r)) name shelf
      (stopped_message stopped) (stopped_status stopped)
  pub counts : CountsShelf shelf (stopped_status stopped)

-- a command is answered so, whatever its sink is that gained nothing
abbrev pub IsStopped : Option Command → ShelfCall → List ℕ → Status → Type 0
IsStopped command shelf message status =
    (files : Files) (out : SinkCall) → shelf.held ≡ Some files → shelf.held_after ≡ shelf.held
    → out.after ≡ out.before → IsAnswer files command shelf out message status

-- one of the outcomes was carried out over these files, or a write of its text failed, or a file of
-- it was not saved, or memory was refused
abbrev pub IsCarriedOut : Files → (Outcome → Type 0) → ShelfCall → SinkCall → List ℕ → Status
    → Type 0
IsCarriedOut files outcomes shelf out message ReadFault = ⊥
IsCarriedOut files outcomes shelf out message WriteFault =
    Among outcomes (IsUnwritten files shelf out message)
IsCarriedOut files outcomes shelf out message SaveFault =
    Among outcomes (IsUnsaved files shelf out message)
IsCarriedOut files outcomes shelf out message NoMemory =
    IsGivenUp files outcomes shelf out message
IsCarriedOut files outcomes shelf out message status =
    Among outcomes (IsEnd files status shelf out message)

-- one of the outcomes was carried out by a command that saves nothing, whatever files are held
abbrev pub IsWritten : (Outcome → Type 0) → SinkCall → List ℕ → Status → Type 0
IsWritten outcomes out message status =
    (files : Files) (shelf : ShelfCall) → shelf.held ≡ Some files → shelf.held_after ≡ shelf.held
    → IsCarriedOut files outcomes shelf out message status

-- the status of a command whose work was begun
abbrev pub is_work : Status → Bool
is_work Done = true
is_work Fault = true
is_work WriteFault = true
is_work SaveFault = true
is_work NoMemory = true
is_work status = false

-- the status of a command whose work was begun and which saves nothing
abbrev pub is_plain_work : Status → Bool
is_plain_work SaveFault = false
is_plain_work status = is_work status

-- a task was carried out for its outcome, on what is kept and on the sink of its text; one that
-- saves nothing, on any shelf that is left as it was
pub record IsRunOf {O : Type 0} (of_sink : sink_trait.Ghosts O) (task : Task) (shelf : ShelfCall)
    (out out_after : O) (r : Result Answer Stopped) : Type 0 where
  pub carried_out : (files : Files) → shelf.held ≡ Some files
      → IsCarriedOut files (λ o. o ≡ outcome_of task) shelf (sink_call of_sink out out_after)
      (message_in r) (status_in r)
  pub written : saves_files (saves_in task) ≡ false → IsWritten (λ o. o ≡ outcome_of task)
      (sink_call of_sink out out_after) (message_in r) (status_in r)
  pub plain : saves_files (saves_in task) ≡ false → is_plain_work (status_in r) ≡ true
  pub work : is_work (status_in r) ≡ true
  pub counts : CountsShelf shelf (status_in r)
  pub stops : StopsShelf shelf (status_in r)
  pub writes : CountsWrites (sink_call of_sink out out_after) (status_in r)
  pub clean : has_run (status_in r) ≡ true → of_sink.clean out_after ≡ true

-- a command was served, or words that ask for none: they are answered, failures of the shelf and
-- the sink are counted, and both stand as the status says
pub record IsServed {S O : Type 0} (of_shelf : shelf_trait.Ghosts S) (of_sink : sink_trait.Ghosts O)
    (command : Option Command) (shelf shelf_after : S) (out out_after : O)
    (r : Result Answer Stopped) : Type 0 where
  pub answered : (files : Files) → of_shelf.held shelf ≡ Some files
      → IsAnswer files command (shelf_call of_shelf shelf shelf_after)
      (sink_call of_sink out out_after) (message_in r) (status_in r)
  pub usage : status_in r ≡ Usage → command ≡ None
  pub no_command : command ≡ None → (status_in r ≡ Usage) ⊎ (status_in r ≡ NoMemory)
  pub counts : CountsShelf (shelf_call of_shelf shelf shelf_after) (status_in r)
  pub reads : may_save command ≡ false
      → CountsReads (shelf_call of_shelf shelf shelf_after) (status_in r)
  pub stops : StopsShelf (shelf_call of_shelf shelf shelf_after) (status_in r)
  pub writes : CountsWrites (sink_call of_sink out out_after) (status_in r)
  pub untouched : is_refusal (status_in r) ≡ true → out_after ≡ out
  pub untouched_by_usage : status_in r ≡ Usage → out_after ≡ out
  pub unsaved : saves_nothing (status_in r) ≡ true → of_shelf.held shelf_after ≡ of_shelf.held shelf
  pub clean : has_run (status_in r) ≡ true → of_sink.clean out_after ≡ true
