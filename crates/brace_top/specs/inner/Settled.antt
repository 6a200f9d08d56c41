-- How a run is answered, by what its crew came to. Only the crate's own functions cite this.
use Rattle.std.specs.Prelude.{◌≡◌, ℕ, List, Bool, Option, Some, None, Result, Ok, Err}
use Rattle.brace_command.specs.declared.answer.Answer.{Answer}
use Rattle.brace_command.specs.declared.answer.Stopped.{Stopped}
use Rattle.brace_command.specs.declared.answer.Stopped.TheVariants as stopped
use Rattle.brace_command.specs.declared.status.Status.TheVariants.{Done, Fault, WriteFault, SaveFault, NoMemory}
use Rattle.brace_command.specs.Messages.{fault_message, save_fault_message}
use Rattle.brace_command.specs.Savings.{Saves}
use Rattle.brace_pieces.specs.declared.counts.Counts.{Counts}
use Rattle.brace_desk.specs.Shows.{file_name}
use Rattle.brace_crew.specs.declared.crew.CrewFault.{CrewFault}
use Rattle.brace_crew.specs.declared.crew.CrewFault.TheVariants as crew
use Rattle.brace_desk.specs.declared.publisher.PubFault.{PubFault}
use Rattle.brace_desk.specs.declared.publisher.PubFault.TheVariants as refusal
use Rattle.brace_command.specs.Settled.{IsRefusedAs, IsToldAs, told_counts}

-- the command goes no further, and so
abbrev pub IsErrOf : (Stopped → Type 0) → Result Answer Stopped → Type 0
IsErrOf so (Ok answer) = ⊥
IsErrOf so (Err stop) = so stop

-- the file of a tick was not saved, under a name that was given
abbrev pub IsUnsavedAs : Option (List ℕ) → ℕ → Stopped → Type 0
IsUnsavedAs (Some name) k stop =
    IsRefusedAs SaveFault (save_fault_message (file_name name k)) stop
IsUnsavedAs None k stop = stop ≡ stopped.NoMemory

-- a publisher refused, which is told so
abbrev pub IsRefusedBy : Saves → PubFault → Stopped → Type 0
IsRefusedBy saves refusal.Write stop = stop ≡ stopped.WriteFault
IsRefusedBy saves (refusal.Save k) stop = IsUnsavedAs saves.save k stop
IsRefusedBy saves (refusal.Watch k) stop = IsUnsavedAs saves.watch k stop
IsRefusedBy saves refusal.NoMemory stop = stop ≡ stopped.NoMemory

-- a run is answered by what its crew came to
abbrev pub IsSettled : Bool → Saves → Result Counts CrewFault → Result Answer Stopped → Type 0
IsSettled stats saves (Ok counts) r = IsToldAs Done (told_counts stats counts) r
IsSettled stats saves (Err (crew.Fault f)) r = IsToldAs Fault (fault_message f) r
IsSettled stats saves (Err (crew.Publish x)) r = IsErrOf (IsRefusedBy saves x) r
IsSettled stats saves (Err crew.NoMemory) r = r ≡ Err stopped.NoMemory
