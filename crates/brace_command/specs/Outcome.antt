-- What a command comes to with no fault of the outside and with ample memory: its status, its texts
-- and the files that it saves.
use Rattle.std.specs.Prelude.{◌≡◌, ◌⊎◌, ℕ, ◌^◌, List, [], ◌∷◌, length, nat_lt, codes, ℤ, Bool, true, false, if◌then◌else◌, Option, Some, None, Result, Ok, Err}
use Rattle.brace_io.specs.Shelves.{Files}
use Rattle.brace_model.specs.declared.program.Program.{Program}
use Rattle.brace_model.specs.declared.fault.Fault.{Fault}
use Rattle.brace_model.specs.declared.job.Job.{Job}
use Rattle.brace_cuts.specs.declared.plan.CutPlan.{CutPlan}
use Rattle.brace_cuts.specs.declared.kinds.PlanKind.{PlanKind}
use Rattle.brace_cuts.specs.CutPlans as plan_file
use Rattle.brace_watch.specs.declared.kinds.Watch.{Watch}
use Rattle.brace_watch.specs.declared.kinds.WatchKind.{WatchKind}
use Rattle.brace_watch.specs.Lines.{texts_of}
use Rattle.brace_watch.specs.Watches as watch_file
use Rattle.brace_audit.specs.Differs.{differs}
use Rattle.brace_balance.specs.declared.kinds.Balance.{Balance}
use Rattle.brace_balance.specs.Texts.{plan_line, certificate}
use Rattle.brace_model.specs.World.{World, world_of}
use Rattle.brace_model.specs.Run.{end_of, first_fault}
use Rattle.brace_model.specs.Published.{published}
use Rattle.brace_pieces.specs.declared.setting.Setting.{Setting}
use Rattle.brace_pieces.specs.Counts.{count_border, count_effects, count_moved, count_handed}
use Rattle.brace_desk.specs.Sums.{sums_of}
use Rattle.brace_show.specs.Canonical.{canonical}
use Rattle.brace_syntax.specs.declared.tree.Tree.{Tree}
use Rattle.brace_command.specs.declared.status.Status.{Status}
use Rattle.brace_command.specs.declared.status.Status.TheVariants.{Done, Usage, Script, Agents, Plan, Checkpoint, Absent, Differs, Watches}
use Rattle.brace_command.specs.declared.status.Status.TheVariants as ended_by
use Rattle.brace_command.specs.Limits.{script_limit, agents_limit, plan_limit, watch_limit, checkpoint_limit}
use Rattle.brace_command.specs.Balances.{IsAlongX, IsBalance}
use Rattle.brace_command.specs.Commands.{Command, RunCommand, TrialCommand, BalanceCommand, AuditCommand, Start, Anew, Resumed, Run, Format, Check, Planning, Trial, Balancing, Auditing, command_of, script_in, agents_in, start_file, is_anew}
use Rattle.brace_command.specs.declared.script_fault.ScriptFault.{ScriptFault}
use Rattle.brace_command.specs.declared.script_fault.ScriptFault.TheVariants as fault
use Rattle.brace_command.specs.declared.script_fault.ScriptKind.{ScriptKind}
use Rattle.brace_command.specs.Messages.{named_message, placed_message, record_message, line_message, plan_word, watch_word, point_message, row_message, script_word, usage_message, fault_message, stats_message}
use Rattle.brace_command.specs.Places.{line_number, column_number}
use Rattle.brace_command.specs.PlanText.{plan_text}
use Rattle.brace_command.specs.Scripts.{IsTree, Means, NoTree, Refuses}
use Rattle.brace_command.specs.Savings.{Saves, Saving, savings}
use Rattle.brace_command.specs.Trials.{trial_script, trial_plan, trial_line}
use Rattle.brace_save.specs.declared.kinds.PointFault.{PointFault}
use Rattle.brace_save.specs.Lines.{IsRead, whole_lines, unfinished}
use Rattle.brace_save.specs.Texts.{Moment}
use Rattle.brace_rows.specs.declared.kinds.RowKind.{RowKind}
use Rattle.brace_rows.specs.AgentFile as file
use Rattle.brace_rows.specs.MadeAgents.{made_agents}

-- the status, all of the text on standard output, the message on standard error, and the files that
-- are saved, in order
pub record Outcome : Type 0 where
  pub status : Status
  pub out : List ℕ
  pub err : List ℕ
  pub saved : List Saving

-- why a named file is refused: the status and the message
pub record Refusal : Type 0 where
  pub status : Status
  pub message : List ℕ

-- a refusal that names the file and what is behind its name
abbrev pub refusal : Status → List ℕ → List ℕ → Refusal
refusal status name rest = record { status = status; message = named_message name rest }

-- the bytes of a named file within its limit, or why it is refused: it is absent or too long
abbrev pub loaded : Status → ℕ → List ℕ → Option (List ℕ) → Result (List ℕ) Refusal
loaded status limit name None = Err (refusal Absent name (codes ": absent"))
loaded status limit name (Some bytes) =
    if nat_lt limit (length bytes) then Err (refusal status name (codes ": TooLong")) else Ok bytes

-- the bytes of a script within its limit
abbrev pub source_of : Files → List ℕ → Result (List ℕ) Refusal
source_of files name = loaded Script script_limit name (files name)

-- the message that refuses a script at a place
abbrev pub script_message : List ℕ → List ℕ → ScriptKind → ℕ → List ℕ
script_message name src kind at =
    placed_message name (line_number src at) (column_number src at) (script_word kind)

-- a script that is refused at a place
abbrev pub script_refusal : List ℕ → List ℕ → ScriptKind → ℕ → Refusal
script_refusal name src kind at =
    record { status = Script; message = script_message name src kind at }

-- what the script of a name comes to: what its bytes mean, or why it is refused
pub data ComesTo {A : Type 0} (means : List ℕ → A → Type 0)
    (refuses : List ℕ → ScriptFault → Type 0) (name : List ℕ) (source : Result (List ℕ) Refusal)
    : Result A Refusal → Type 0 where
  unloaded : (r : Refusal) → source ≡ Err r → ComesTo means refuses name source (Err r)
  refused_at : (src : List ℕ) (kind : ScriptKind) (at : ℕ) → source ≡ Ok src
      → refuses src (fault.Refused kind at)
      → ComesTo means refuses name source (Err (script_refusal name src kind at))
  stands_for : (src : List ℕ) (a : A) → source ≡ Ok src → means src a
      → ComesTo means refuses name source (Ok a)

-- the tree of the script of a name
abbrev pub TreeOf : Files → List ℕ → Result Tree Refusal → Type 0
TreeOf files name = ComesTo IsTree NoTree name (source_of files name)

-- the program of the script of a name
abbrev pub ProgramOf : Files → List ℕ → Result Program Refusal → Type 0
ProgramOf files name = ComesTo Means Refuses name (source_of files name)

-- a script's text, and the program that it means
pub record Judged : Type 0 where
  pub source : List ℕ
  pub program : Program

-- a text and its program
pub record IsJudged (src : List ℕ) (judged : Judged) : Type 0 where
  pub source : judged.source ≡ src
  pub means : Means src judged.program

-- the text of the script of a name, and its program
abbrev pub JudgedOf : Files → List ℕ → Result Judged Refusal → Type 0
JudgedOf files name = ComesTo IsJudged Refuses name (source_of files name)

-- the program of the script of a trial, which is judged as the script of a file named `trial` is
abbrev pub TrialProgram : Result Program Refusal → Type 0
TrialProgram = ComesTo Means Refuses (codes "trial") (Ok trial_script)

-- a world, unless a record of its file is faulty: the number of the first one, and its kind
abbrev pub unless_faulty : List ℕ → World → Option (ℕ × RowKind) → Result World Refusal
unless_faulty name world None = Ok world
unless_faulty name world (Some (number, kind)) =
    Err (record { status = Agents; message = record_message name number kind })

-- the world of the bytes of an agent file, or the refusal of its first faulty record
abbrev pub world_from : Program → List ℕ → Result (List ℕ) Refusal → Result World Refusal
world_from program name (Err r) = Err r
world_from program name (Ok bytes) =
    let records = file.records_of bytes in
    unless_faulty name (world_of (file.by_id (file.agents_in program records)))
    (file.first_fault program records)

-- the world of an agent file within its limit
abbrev pub agents_of : Files → Program → List ℕ → Result World Refusal
agents_of files program name =
    world_from program name (loaded Agents agents_limit name (files name))

-- the moment at which a run of a seed begins anew
abbrev pub begun_anew : ℕ → Result World Refusal → Result Moment Refusal
begun_anew seed (Err r) = Err r
begun_anew seed (Ok world) = Ok (record { tick = 0; seed = seed; world = world })

-- a moment, unless the file of a name is no checkpoint
abbrev pub unless_other : List ℕ → Result Moment PointFault → Result Moment Refusal
unless_other name (Ok moment) = Ok moment
unless_other name (Err fault) =
    Err (record { status = Checkpoint; message = point_message name fault })

-- what the bytes of the checkpoint of a name come to
pub record IsPoint (program : Program) (name bytes : List ℕ) (found : Result Moment Refusal)
    : Type 0 where
  pub judged : Result Moment PointFault
  pub reads : IsRead program (whole_lines bytes) (unfinished bytes) judged
  pub is : found ≡ unless_other name judged

-- what the bytes of a checkpoint come to, where they were loaded
abbrev pub PointFrom : Program → List ℕ → Result (List ℕ) Refusal → Result Moment Refusal → Type 0
PointFrom program name (Err r) found = found ≡ Err r
PointFrom program name (Ok bytes) found = IsPoint program name bytes found

-- what the checkpoint of a name comes to
abbrev pub PointOf : Files → Program → List ℕ → Result Moment Refusal → Type 0
PointOf files program name =
    PointFrom program name (loaded Checkpoint checkpoint_limit name (files name))

-- what the file with which a run begins comes to: the moment at which it begins, or why it is
-- refused
abbrev pub BeginsAt : Files → Program → Start → Result Moment Refusal → Type 0
BeginsAt files program (Anew name seed) found =
    begun_anew seed (agents_of files program name) ≡ found
BeginsAt files program (Resumed name) found = PointOf files program name found

-- a plan, unless a line of its file is faulty: the number of the first one, and its kind
abbrev pub unless_bad : List ℕ → CutPlan → Option (ℕ × PlanKind) → Result CutPlan Refusal
unless_bad name plan None = Ok plan
unless_bad name plan (Some (number, kind)) =
    Err (record { status = Plan; message = line_message name number (plan_word kind) })

-- the plan of the bytes of a cut plan, or the refusal of its first faulty line
abbrev pub plan_from : ℕ → List ℕ → Result (List ℕ) Refusal → Result CutPlan Refusal
plan_from epoch name (Err r) = Err r
plan_from epoch name (Ok bytes) =
    let texts = plan_file.lines_of bytes in
    unless_bad name (record { lines = plan_file.lines_in texts })
    (plan_file.first_fault epoch texts)

-- the plane in one part
abbrev pub whole_plane : CutPlan
whole_plane = record { lines = record { tick = 0; cuts = record { xs = []; ys = [] } } ∷ [] }

-- the plan of a cut plan within its limit, or the whole plane where none is named
abbrev pub plan_of : Files → ℕ → Option (List ℕ) → Result CutPlan Refusal
plan_of files epoch None = Ok whole_plane
plan_of files epoch (Some name) = plan_from epoch name (loaded Plan plan_limit name (files name))

-- watches, unless a line of their file is faulty: the number of the first one, and its kind
abbrev pub unless_wrong : List ℕ → List Watch → Option (ℕ × WatchKind)
    → Result (List Watch) Refusal
unless_wrong name watches None = Ok watches
unless_wrong name watches (Some (number, kind)) =
    Err (record { status = Watches; message = line_message name number (watch_word kind) })

-- the watches of the bytes of a watch file, or the refusal of its first faulty line
abbrev pub watches_from : Program → List ℕ → Result (List ℕ) Refusal
    → Result (List Watch) Refusal
watches_from program name (Err r) = Err r
watches_from program name (Ok bytes) =
    let texts = texts_of bytes in
    unless_wrong name (watch_file.watches_in program texts) (watch_file.first_fault program texts)

-- the watches of a watch file within its limit, or none where none is named
abbrev pub watches_of : Files → Program → Option (List ℕ) → Result (List Watch) Refusal
watches_of files program None = Ok []
watches_of files program (Some name) =
    watches_from program name (loaded Watches watch_limit name (files name))

-- what a run saves that watches these
abbrev pub saves_of : RunCommand → List Watch → Saves
saves_of run watches = record { save = run.save; watch = run.watch; watches = watches }

-- the setting of a run from a moment on
abbrev pub setting_of : RunCommand → Program → Moment → CutPlan → Setting
setting_of run program moment plan = record {
  job = record {
    program = program;
    seed = moment.seed;
    first = moment.tick;
    last = run.ticks;
    every = run.every;
    start = moment.world;
  };
  cuts = plan;
  epoch = run.manner.epoch;
  invert = run.manner.invert;
}

-- a command that is refused: nothing is written, and why
abbrev pub refused : Refusal → Outcome
refused r = record { status = r.status; out = []; err = r.message; saved = [] }

-- a text that is written whole, with a message
abbrev pub told : List ℕ → List ℕ → Outcome
told text message = record { status = Done; out = text; err = message; saved = [] }

-- a text that is written whole
abbrev pub shown : List ℕ → Outcome
shown text = told text []

-- an outcome of what follows on a file that is accepted, or its refusal
abbrev pub FollowedBy : {A : Type 0} → (A → Outcome → Type 0) → Result A Refusal → Outcome → Type 0
FollowedBy next (Err r) o = o ≡ refused r
FollowedBy next (Ok a) o = next a o

-- an outcome of what follows on one of the things that a file comes to
pub record Follows {A : Type 0} (comes_to : Result A Refusal → Type 0)
    (next : A → Outcome → Type 0) (o : Outcome) : Type 0 where
  pub found : Result A Refusal
  pub is : comes_to found
  pub follows : FollowedBy next found o

-- the counts of a run, where they are to be told
abbrev pub stats_of : Bool → Setting → List ℕ
stats_of true s = stats_message (count_border s) (count_effects s) (count_moved s) (count_handed s)
stats_of false s = []

-- the status of a run that reaches its last tick, or ends in its first fault
abbrev pub end_status : Option Fault → Status
end_status None = Done
end_status (Some f) = ended_by.Fault

-- the message of such a run
abbrev pub end_message : Bool → Setting → Option Fault → List ℕ
end_message stats s None = stats_of stats s
end_message stats s (Some f) = fault_message f

-- the outcome of a run: its published text, and the files of its ends; none of either where it
-- begins behind its last tick
abbrev pub ran : Bool → Saves → Bool → Setting → Outcome
ran stats saves fresh s =
    let found = first_fault s.job in
    record {
      status = end_status found;
      out = published s.job fresh;
      err = end_message stats s found;
      saved = savings saves fresh s;
    }

-- an outcome of a run of a program from a moment over a plan
abbrev pub RunOver : Files → RunCommand → Program → Moment → CutPlan → Outcome → Type 0
RunOver files run program moment plan = FollowedBy
    (λ watches o. o ≡ ran run.manner.stats (saves_of run watches) (is_anew run.start)
    (setting_of run program moment plan)) (watches_of files program run.watch)

-- an outcome of a run of a program from a moment
abbrev pub RunFrom : Files → RunCommand → Program → Moment → Outcome → Type 0
RunFrom files run program moment =
    FollowedBy (RunOver files run program moment) (plan_of files run.manner.epoch run.cuts)

-- an outcome of a run of a program
abbrev pub RunOutcome : Files → RunCommand → Program → Outcome → Type 0
RunOutcome files run program =
    Follows (BeginsAt files program run.start) (RunFrom files run program)

-- the setting of a trial from tick 0, over made agents; of the ticks before its last one only those
-- at which epochs end, and some that 2^32 divides, are shown
abbrev pub trial_setting : TrialCommand → Program → Setting
trial_setting trial program = record {
  job = record {
    program = program;
    seed = trial.seed;
    first = 0;
    last = trial.ticks;
    every = 2 ^ 32;
    start = world_of (made_agents trial.seed trial.count);
  };
  cuts = trial_plan trial.manner.epoch;
  epoch = trial.manner.epoch;
  invert = trial.manner.invert;
}

-- the outcome of a trial: the line of its last world, or its first fault with no text
abbrev pub trial_end : TrialCommand → Setting → Result World Fault → Outcome
trial_end trial s (Ok world) = record {
  status = Done;
  out = trial_line trial.count trial.ticks (sums_of s.job.program world.agents);
  err = stats_of trial.manner.stats s;
  saved = [];
}
trial_end trial s (Err f) =
    record { status = ended_by.Fault; out = []; err = fault_message f; saved = [] }

-- the outcome of a trial of a program
abbrev pub trial_outcome : TrialCommand → Program → Outcome
trial_outcome trial program =
    let s = trial_setting trial program in
    trial_end trial s (end_of s.job)

-- an outcome of balanced strips over a world: the line of a cut plan, and the certificate of its
-- load
pub record IsBalanced (strips : ℕ) (program : Program) (world : World) (o : Outcome) : Type 0 where
  pub xs : List ℤ
  pub along : IsAlongX program world.agents xs
  pub balance : Balance
  pub is : IsBalance xs strips balance
  pub tells : o ≡ told (plan_line balance.cuts) (certificate balance.load balance.proof)

-- an outcome of balanced strips over the agents of a file of a program's classes
abbrev pub BalanceOutcome : Files → BalanceCommand → Program → Outcome → Type 0
BalanceOutcome files balance program =
    FollowedBy (IsBalanced balance.strips program) (agents_of files program balance.agents)

-- the job that an audit compares: the run of a program from a world, from tick 0 on
abbrev pub audit_job : AuditCommand → Program → World → Job
audit_job audit program world = record {
  program = program;
  seed = audit.seed;
  first = 0;
  last = audit.ticks;
  every = audit.every;
  start = world;
}

-- the end of a run, unless the file of a name differs from what it publishes: its first row that
-- does
abbrev pub unless_differs : List ℕ → Option Fault → Option ℕ → Result (Option Fault) Refusal
unless_differs name found None = Ok found
unless_differs name found (Some row) =
    Err (record { status = Differs; message = row_message name row })

-- what the published file of a name comes to: the first fault of a job's run, if it has one, where
-- the file is what that run publishes, or why the file is not
abbrev pub compared : List ℕ → Job → Option (List ℕ) → Result (Option Fault) Refusal
compared name job None = Err (refusal Absent name (codes ": absent"))
compared name job (Some file) =
    unless_differs name (first_fault job) (differs file (published job true))

-- the line of a run's first fault, where it has one
abbrev pub fault_line : Option Fault → List ℕ
fault_line None = []
fault_line (Some f) = fault_message f

-- the outcome of an audit of a file that is what a run publishes, by the run's first fault
abbrev pub agreed : Option Fault → Outcome
agreed found = record {
  status = end_status found;
  out = codes "audit yes\n";
  err = fault_line found;
  saved = [];
}

-- an outcome of an audit from a world
abbrev pub AuditFrom : Files → AuditCommand → Program → World → Outcome → Type 0
AuditFrom files audit program world = FollowedBy (λ found o. o ≡ agreed found)
    (compared audit.published (audit_job audit program world) (files audit.published))

-- an outcome of an audit of a program
abbrev pub AuditOutcome : Files → AuditCommand → Program → Outcome → Type 0
AuditOutcome files audit program =
    FollowedBy (AuditFrom files audit program) (agents_of files program audit.agents)

-- an outcome of a command, or of words that are none
abbrev pub CommandOutcome : Files → Option Command → Outcome → Type 0
CommandOutcome files None o =
    o ≡ record { status = Usage; out = []; err = usage_message; saved = [] }
CommandOutcome files (Some (Run run)) o =
    Follows (ProgramOf files run.script) (RunOutcome files run) o
CommandOutcome files (Some (Format name)) o =
    Follows (TreeOf files name) (λ tree o. o ≡ shown (canonical tree)) o
CommandOutcome files (Some (Check name)) o =
    Follows (ProgramOf files name) (λ program o. o ≡ shown []) o
CommandOutcome files (Some (Planning name invert)) o =
    Follows (JudgedOf files name)
    (λ judged o. o ≡ shown (plan_text judged.source judged.program invert)) o
CommandOutcome files (Some (Trial trial)) o =
    Follows TrialProgram (λ program o. o ≡ trial_outcome trial program) o
CommandOutcome files (Some (Balancing balance)) o =
    Follows (ProgramOf files balance.script) (BalanceOutcome files balance) o
CommandOutcome files (Some (Auditing audit)) o =
    Follows (ProgramOf files audit.script) (AuditOutcome files audit) o

-- an outcome of words over the files that a shelf holds
abbrev pub HasOutcome : List (List ℕ) → Files → Outcome → Type 0
HasOutcome words files o = CommandOutcome files (command_of words) o

-- a command reads the file of this name where every file before it is accepted: its script, then
-- the file with which a run begins, or the agent file, and its cut plan and its watch file, or the
-- published file
pub data Reads (files : Files) : Option Command → List ℕ → Type 0 where
  reads_script : (command : Command) (name : List ℕ) → script_in command ≡ Some name
      → Reads files (Some command) name
  reads_start : (run : RunCommand) (program : Program) → ProgramOf files run.script (Ok program)
      → Reads files (Some (Run run)) (start_file run.start)
  reads_agents : (command : Command) (script name : List ℕ) (program : Program)
      → script_in command ≡ Some script → ProgramOf files script (Ok program)
      → agents_in command ≡ Some name → Reads files (Some command) name
  reads_published : (audit : AuditCommand) (program : Program) (world : World)
      → ProgramOf files audit.script (Ok program) → agents_of files program audit.agents ≡ Ok world
      → Reads files (Some (Auditing audit)) audit.published
  reads_plan : (run : RunCommand) (program : Program) (moment : Moment) (name : List ℕ)
      → ProgramOf files run.script (Ok program) → BeginsAt files program run.start (Ok moment)
      → run.cuts ≡ Some name
      → Reads files (Some (Run run)) name
  reads_watch : (run : RunCommand) (program : Program) (moment : Moment) (plan : CutPlan)
      (name : List ℕ) → ProgramOf files run.script (Ok program)
      → BeginsAt files program run.start (Ok moment)
      → plan_of files run.manner.epoch run.cuts ≡ Ok plan → run.watch ≡ Some name
      → Reads files (Some (Run run)) name
