-- How a command ends, and the number of each way.
use Rattle.std.specs.Prelude.{ℕ, ◌==◌, Bool, true, false, if◌then◌else◌}
use Rattle.brace_command.specs.declared.status.Status.{Status}
use Rattle.brace_command.specs.declared.status.Status.TheVariants.{Done, Usage, Script, Agents, Plan, Checkpoint, Fault, ReadFault, WriteFault, SaveFault, NoMemory, Absent, Differs, Watches}

-- the number with which the program ends
abbrev pub code_of : Status → ℕ
code_of Done = 0
code_of Usage = 2
code_of Script = 3
code_of Agents = 4
code_of Plan = 5
code_of Checkpoint = 6
code_of Fault = 7
code_of ReadFault = 8
code_of WriteFault = 9
code_of SaveFault = 10
code_of NoMemory = 11
code_of Absent = 12
code_of Differs = 13
code_of Watches = 14

-- all was written, or a run ended in a fault
abbrev pub has_run : Status → Bool
has_run Done = true
has_run Fault = true
has_run _ = false

-- a named file is refused before a run begins, or differs
abbrev pub is_refusal : Status → Bool
is_refusal Script = true
is_refusal Agents = true
is_refusal Plan = true
is_refusal Checkpoint = true
is_refusal ReadFault = true
is_refusal Absent = true
is_refusal Differs = true
is_refusal Watches = true
is_refusal _ = false

-- the way that a number stands for
abbrev pub status_of : ℕ → Status
status_of code =
    if code == 0 then Done else if code == 2 then Usage else if code == 3 then Script
    else if code == 4 then Agents else if code == 5 then Plan else if code == 6 then Checkpoint
    else if code == 7 then Fault else if code == 8 then ReadFault
    else if code == 9 then WriteFault else if code == 10 then SaveFault
    else if code == 12 then Absent else if code == 13 then Differs
    else if code == 14 then Watches else NoMemory

-- nothing is saved: the words are no command, or a named file is refused
abbrev pub saves_nothing : Status → Bool
saves_nothing Usage = true
saves_nothing status = is_refusal status
