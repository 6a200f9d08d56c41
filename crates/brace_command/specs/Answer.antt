-- How a call answers its command over the files that its shelf holds.
use Rattle.std.specs.Prelude.{◌≡◌, ◌≤◌, ℕ, List, ◌++◌, take, slice_get, ◌⊎◌, true, codes, Option, Some, ⊤}
use Rattle.std.specs.List.{All}
use Rattle.brace_io.specs.declared.shelf.Shelf as shelf_trait
use Rattle.brace_io.specs.declared.sink.Sink as sink_trait
use Rattle.brace_io.specs.Counts.{Rose}
use Rattle.brace_io.specs.Shelves.{Files, Stage, StoppedAt}
use Rattle.brace_io.specs.Sinks.{Gains, GainsFront}
use Rattle.brace_desk.specs.Filed.{StopsAt}
use Rattle.brace_command.specs.declared.status.Status.{Status}
use Rattle.brace_command.specs.declared.status.Status.TheVariants.{Done, Fault, ReadFault, WriteFault, SaveFault, NoMemory}
use Rattle.brace_command.specs.Commands.{Command, command_of}
use Rattle.brace_command.specs.Messages.{named_message, write_fault_message, save_fault_message, no_memory_message}
use Rattle.brace_command.specs.Outcome.{Outcome, CommandOutcome, Reads}
use Rattle.brace_command.specs.Savings.{Saving, with_saved}
use Rattle.brace_command.specs.Status.{has_run}

-- a shelf over a call: the files that it held before and after, where it tells them, where it
-- stands after, and its failures
pub record ShelfCall : Type 0 where
  pub held : Option Files
  pub held_after : Option Files
  pub stage : Stage
  pub faults_before : ℕ
  pub faults_after : ℕ

-- a sink over a call: what was written before and after, where it tells that, and its failures
pub record SinkCall : Type 0 where
  pub before : Option (List ℕ)
  pub after : Option (List ℕ)
  pub faults_before : ℕ
  pub faults_after : ℕ

-- a shelf before and after a call
abbrev pub shelf_call : {S : Type 0} → shelf_trait.Ghosts S → S → S → ShelfCall
shelf_call of before after = record {
  held = of.held before;
  held_after = of.held after;
  stage = of.stage after;
  faults_before = of.faults before;
  faults_after = of.faults after;
}

-- a sink before and after a call
abbrev pub sink_call : {O : Type 0} → sink_trait.Ghosts O → O → O → SinkCall
sink_call of before after = record {
  before = of.written before;
  after = of.written after;
  faults_before = of.faults before;
  faults_after = of.faults after;
}

-- the count of the shelf's failures rose where a read fault or a save fault is answered; it did not
-- fall where files may have been saved, and is the same where none was
abbrev pub CountsShelf : ShelfCall → Status → Type 0
CountsShelf shelf ReadFault = Rose shelf.faults_before shelf.faults_after
CountsShelf shelf SaveFault = Rose shelf.faults_before shelf.faults_after
CountsShelf shelf Done = shelf.faults_before ≤ shelf.faults_after
CountsShelf shelf Fault = shelf.faults_before ≤ shelf.faults_after
CountsShelf shelf WriteFault = shelf.faults_before ≤ shelf.faults_after
CountsShelf shelf NoMemory = ⊤
CountsShelf shelf status = shelf.faults_after ≡ shelf.faults_before

-- of a command that saves nothing, the count rose where a read fault is answered, and is the same
-- at every other status, but for want of memory
abbrev pub CountsReads : ShelfCall → Status → Type 0
CountsReads shelf ReadFault = Rose shelf.faults_before shelf.faults_after
CountsReads shelf NoMemory = ⊤
CountsReads shelf status = shelf.faults_after ≡ shelf.faults_before

-- the shelf stopped at some name
pub record IsHalted (shelf : ShelfCall) : Type 0 where
  pub name : List ℕ
  pub at_name : StoppedAt shelf.held_after shelf.stage name

-- the shelf stopped where a read fault or a save fault is answered, also one that tells no files
pub record StopsShelf (shelf : ShelfCall) (status : Status) : Type 0 where
  pub read : status ≡ ReadFault → IsHalted shelf
  pub saved : status ≡ SaveFault → IsHalted shelf

-- the count of the sink's failures rose where a write fault is answered
abbrev pub CountsWrites : SinkCall → Status → Type 0
CountsWrites sink status = status ≡ WriteFault → Rose sink.faults_before sink.faults_after

-- what the sink gained: all of the text after a command that was carried out, else nothing
abbrev pub Gained : Status → SinkCall → List ℕ → Type 0
Gained Done sink text = Gains sink.before sink.after text
Gained Fault sink text = Gains sink.before sink.after text
Gained status sink text = sink.after ≡ sink.before

-- the files that the shelf holds are these and, on top of them, some that were saved
abbrev pub HoldsSaved : Files → ShelfCall → List Saving → Type 0
HoldsSaved files shelf saved = shelf.held_after ≡ Some (with_saved files saved)

-- the answer is this outcome's
pub record IsEnd (files : Files) (status : Status) (shelf : ShelfCall) (out : SinkCall)
    (message : List ℕ) (o : Outcome) : Type 0 where
  pub ends : status ≡ o.status
  pub gained : Gained status out o.out
  pub holds : HoldsSaved files shelf o.saved
  pub says : message ≡ o.err

-- all of the text was written that is before a file that is saved, and maybe more
abbrev pub IsBehind : SinkCall → Saving → Type 0
IsBehind out saving = (more : List ℕ) × Gains out.before out.after (saving.behind ++ more)

-- some of an outcome's files are saved, from the first one on, and all of the text was written that
-- is before them
pub record HasSaved (files : Files) (shelf : ShelfCall) (out : SinkCall) (o : Outcome) : Type 0
  where
    pub count : ℕ
    pub holds : HoldsSaved files shelf (take count o.saved)
    pub behind : All (IsBehind out) (take count o.saved)

-- a write of this outcome's text failed, of a command that was to be carried out
pub record IsUnwritten (files : Files) (shelf : ShelfCall) (out : SinkCall) (message : List ℕ)
    (o : Outcome) : Type 0 where
  pub runs : has_run o.status ≡ true
  pub failed : Rose out.faults_before out.faults_after
  pub front : GainsFront out.before out.after o.out
  pub saved : HasSaved files shelf out o
  pub says : message ≡ write_fault_message

-- a file of this outcome is as it was or has a front of its bytes: all of the text was written that
-- is before it, the files before it are saved, and the shelf stopped at it
pub record IsHalfSaved (files : Files) (shelf : ShelfCall) (out : SinkCall) (o : Outcome) : Type 0
  where
    pub count : ℕ
    pub saving : Saving
    pub is_next : slice_get o.saved count ≡ Some saving
    pub gained : Gains out.before out.after saving.behind
    pub stops : StopsAt (Some (with_saved files (take count o.saved))) shelf.held_after
        shelf.stage saving.file

-- a file of this outcome was not saved, of a command that was to be carried out
pub record IsUnsaved (files : Files) (shelf : ShelfCall) (out : SinkCall) (message : List ℕ)
    (o : Outcome) : Type 0 where
  pub runs : has_run o.status ≡ true
  pub failed : Rose shelf.faults_before shelf.faults_after
  pub front : GainsFront out.before out.after o.out
  pub half : IsHalfSaved files shelf out o
  pub says : message ≡ save_fault_message half.saving.file.0

-- a read of the file of this name failed
pub record IsUnread (shelf : ShelfCall) (message name : List ℕ) : Type 0 where
  pub failed : Rose shelf.faults_before shelf.faults_after
  pub same : shelf.held_after ≡ shelf.held
  pub stopped : StoppedAt shelf.held shelf.stage name
  pub says : message ≡ named_message name (codes ": read fault")

-- the fact holds of one among these
pub record Among {A : Type 0} (these fact : A → Type 0) : Type 0 where
  pub one : A
  pub is : these one
  pub holds : fact one

-- a front of an outcome's text was written, and some of its files are saved, of which the next may
-- be half saved
pub record LeavesFront (files : Files) (shelf : ShelfCall) (out : SinkCall) (o : Outcome) : Type 0
  where
    pub front : GainsFront out.before out.after o.out
    pub saved : HasSaved files shelf out o ⊎ IsHalfSaved files shelf out o

-- nothing was written and nothing saved
pub record LeavesAll (shelf : ShelfCall) (out : SinkCall) : Type 0 where
  pub unwritten : out.after ≡ out.before
  pub unsaved : shelf.held_after ≡ shelf.held

-- memory was refused: nothing more is said than what may stand on the sink and on the shelf
pub record IsGivenUp (files : Files) (outcomes : Outcome → Type 0) (shelf : ShelfCall)
    (out : SinkCall) (message : List ℕ) : Type 0 where
  pub leaves : LeavesAll shelf out ⊎ Among outcomes (LeavesFront files shelf out)
  pub says : message ≡ no_memory_message

-- the answer to a command, by its status. 8 names a file that the command reads, at which the shelf
-- stopped; 9 comes where a write of an outcome's text failed, 10 where a file of an outcome was not
-- saved; 11 is free; any other status is an outcome's, with its texts and its files
abbrev pub IsAnswer : Files → Option Command → ShelfCall → SinkCall → List ℕ → Status → Type 0
IsAnswer files command shelf out message ReadFault =
    Among (Reads files command) (IsUnread shelf message)
IsAnswer files command shelf out message WriteFault =
    Among (CommandOutcome files command) (IsUnwritten files shelf out message)
IsAnswer files command shelf out message SaveFault =
    Among (CommandOutcome files command) (IsUnsaved files shelf out message)
IsAnswer files command shelf out message NoMemory =
    IsGivenUp files (CommandOutcome files command) shelf out message
IsAnswer files command shelf out message status =
    Among (CommandOutcome files command) (IsEnd files status shelf out message)

-- a front of the message was written, and the sink failed
pub record IsCutOff (err : SinkCall) (message : List ℕ) : Type 0 where
  pub failed : Rose err.faults_before err.faults_after
  pub front : GainsFront err.before err.after message

-- the message was written, or a front of it where the sink failed
abbrev pub IsSaid : SinkCall → List ℕ → Type 0
IsSaid err message = Gains err.before err.after message ⊎ IsCutOff err message

-- a call: its words and its status, and what it did to its shelf, to the sink of its text and to
-- that of its message
pub record Call : Type 0 where
  pub words : List (List ℕ)
  pub status : Status
  pub shelf : ShelfCall
  pub out : SinkCall
  pub err : SinkCall

-- a call of these words with this status
abbrev pub call_of : List (List ℕ) → Status → ShelfCall → SinkCall → SinkCall → Call
call_of words status shelf out err =
    record { words = words; status = status; shelf = shelf; out = out; err = err }

-- over these files the call answers its words, and says its message
pub record Answers (files : Files) (call : Call) : Type 0 where
  pub message : List ℕ
  pub answer : IsAnswer files (command_of call.words) call.shelf call.out message call.status
  pub said : IsSaid call.err message

-- where the shelf tells its files, the call is answered over them
abbrev pub IsAnswered : Call → Type 0
IsAnswered call = (files : Files) → call.shelf.held ≡ Some files → Answers files call
