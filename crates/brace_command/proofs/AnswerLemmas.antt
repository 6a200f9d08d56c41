-- The answer of a command, from what its parts come to.
use Rattle.std.proofs.Common.{◌≡◌, ◌∙◌, refl, sym, ap, subst, ℕ, List, [], true, false, Bool, Option, Some, None, option_map, unwrap_or, Result, Ok, Err, codes, inl, inr, if◌then◌else◌, nat_lt, length, ◌<◌, ◌≤◌, ◌^◌, arith}
use Rattle.std.specs.Prelude.{◌⊎◌, IfOk}
use Rattle.std.proofs.lemmas.Bool.Decides.{nat_tests}
use Rattle.std.proofs.lemmas.List.{take_all}
use Rattle.brace_io.specs.declared.shelf.Shelf as shelf_trait
use Rattle.brace_io.specs.declared.sink.Sink as sink_trait
use Rattle.brace_io.specs.Counts.{Rose}
use Rattle.brace_io.specs.Shelves.{Files, Holds, StoppedAt}
use Rattle.brace_io.specs.Sinks.{with_piece, Gains, GainsFront}
use Rattle.brace_cuts.specs.declared.plan.CutPlan.{CutPlan}
use Rattle.brace_cuts.specs.CutPlans.{IsPlan}
use Rattle.brace_watch.specs.declared.kinds.Watch.{Watch}
use Rattle.brace_model.specs.declared.program.Program.{Program}
use Rattle.brace_model.specs.Lawful.{LawfulProgram, LawfulAgents}
use Rattle.brace_model.specs.World.{World, IsNumbered, world_of}
use Rattle.brace_pieces.specs.Settings.{LawfulSetting}
use Rattle.brace_rows.specs.declared.kinds.RowFault.{RowFault}
use Rattle.brace_rows.specs.declared.kinds.RowFault.TheVariants as row_fault
use Rattle.brace_rows.specs.declared.kinds.RowKind.{RowKind}
use Rattle.brace_rows.specs.AgentFile as file
use Rattle.brace_save.specs.Texts.{Moment}
use Rattle.brace_words.specs.declared.line.Line.{Line}
use Rattle.brace_words.specs.declared.fault.LineFault.{LineFault}
use Rattle.brace_words.specs.declared.fault.LineFault.TheVariants as line_fault
use Rattle.brace_command.specs.declared.answer.Answer.{Answer}
use Rattle.brace_command.specs.declared.answer.Stopped.{Stopped}
use Rattle.brace_command.specs.declared.answer.Stopped.TheVariants as stopped_is
use Rattle.brace_command.specs.Limits.{agents_limit}
use Rattle.brace_command.specs.declared.script_fault.ScriptFault.{ScriptFault}
use Rattle.brace_command.specs.declared.script_fault.ScriptFault.TheVariants as script_fault
use Rattle.brace_command.specs.declared.status.Status.{Status}
use Rattle.brace_command.specs.declared.status.Status.TheVariants.{Done, Usage, Script, Agents, Fault, ReadFault, WriteFault, SaveFault, NoMemory}
use Rattle.brace_command.specs.declared.preparing.Work.{Work}
use Rattle.brace_command.specs.declared.preparing.Work.TheVariants as work
use Rattle.brace_command.specs.declared.task.Task.{Task}
use Rattle.brace_command.specs.declared.command.RunCommand.{RunCommand as CodeRun}
use Rattle.brace_command.specs.Answer.{ShelfCall, SinkCall, shelf_call, sink_call, Among, HasSaved, LeavesAll, LeavesFront, IsEnd, IsAnswer, StopsShelf, CountsShelf, CountsReads, CountsWrites}
use Rattle.brace_command.specs.Commands.{Command, RunCommand, TrialCommand, Run, Trial, is_anew, command_of, may_save, workers_of, workers_asked}
use Rattle.brace_command.specs.Messages.{usage_message, write_fault_message, no_memory_message}
use Rattle.brace_command.specs.Outcome.{Outcome, Refusal, TrialProgram, ProgramOf, refusal, refused, loaded, ComesTo, refused_at, stands_for, unless_faulty, world_from, agents_of, BeginsAt, plan_of, watches_of, saves_of, setting_of, ran, RunOver, FollowedBy, RunOutcome, CommandOutcome, Reads, reads_plan, reads_watch}
use Rattle.brace_command.specs.Savings.{Saving, with_saved}
use Rattle.brace_command.specs.Status.{has_run}
use Rattle.brace_command.specs.Settled.{is_work, is_plain_work, stopped_status, stopped_message, status_in, message_in, IsOf, IsRefusedAs, IsScriptRefused, IsRecordRefused, refuses_file, is_stop, GivesNothing, IsLoaded, IsUnloaded, IsStopped, IsCarriedOut, IsWritten, IsRunOf, IsServed, outcome_of}
use Rattle.brace_command.specs.Prepared.{IsStoppedBefore, IsReady, IsPrepared}
use Rattle.brace_command.specs.Words.{said_run, IsReadAs, IsUnasked, IsRunInRange}
use Rattle.brace_command.proofs.StatusLemmas.{stop_runs, stop_usage, stop_writes, work_refusal, work_saves, work_usage, plain_works, plain_stops, plain_counts, stop_reads, plain_reads}

-- ---- what is not loaded

-- what gives nothing gives nothing of what may be made of it
nothing_as : (of_ to_ : Files → Refusal → Type 0) (name : List ℕ) (shelf : ShelfCall) (message : List ℕ) (status : Status)
    → ((files : Files) (r : Refusal) → of_ files r → to_ files r)
    → GivesNothing of_ name shelf message status → GivesNothing to_ name shelf message status
nothing_as of_ to_ name shelf message ReadFault up is = is
nothing_as of_ to_ name shelf message NoMemory up is = is
nothing_as of_ to_ name shelf message _ up is =
    record { stops = is.stops; found = λ files told. up files _ (is.found files told) }

-- what is not loaded does not give what may be made of it
pub unloaded_as : {A B : Type 0} (of_ : Files → Result A Refusal → Type 0) (to_ : Files → Result B Refusal → Type 0) (name : List ℕ) (shelf : ShelfCall) (stopped : Stopped)
    → ((files : Files) (r : Refusal) → of_ files (Err r) → to_ files (Err r)) → IsUnloaded of_ name shelf stopped → IsUnloaded to_ name shelf stopped
unloaded_as of_ to_ name shelf stopped up is = record {
  nothing = nothing_as (λ files r. of_ files (Err r)) (λ files r. to_ files (Err r)) name shelf _ _ up is.nothing;
  counts = is.counts;
}

-- what is not loaded later, where no read failed before, is not loaded
pub unloaded_later : {S A : Type 0} (of_shelf : shelf_trait.Ghosts S) (comes_to : Files → Result A Refusal → Type 0) (name : List ℕ) (s m t : S) (stopped : Stopped)
    → of_shelf.held m ≡ of_shelf.held s → of_shelf.faults m ≡ of_shelf.faults s
    → IsUnloaded comes_to name (shelf_call of_shelf m t) stopped → IsUnloaded comes_to name (shelf_call of_shelf s t) stopped
unloaded_later of_shelf comes_to name s m t stopped held faults is = rw (held, faults) at is

-- a refusal of a file gives nothing
refusing : (P : Files → Refusal → Type 0) (name : List ℕ) (shelf : ShelfCall) (message : List ℕ) (status : Status) → refuses_file status ≡ true
    → ((files : Files) → shelf.held ≡ Some files → P files (record { status = status; message = message })) → GivesNothing P name shelf message status
refusing P name shelf message ReadFault r found = absurd cc
refusing P name shelf message NoMemory r found = absurd cc
refusing P name shelf message _ r found = record { stops = r; found = found }

-- no read failed where a file is refused
refusing_counts : (shelf : ShelfCall) (status : Status) → refuses_file status ≡ true → shelf.faults_after ≡ shelf.faults_before → CountsShelf shelf status
refusing_counts shelf ReadFault r same = absurd cc
refusing_counts shelf NoMemory r same = absurd cc
refusing_counts shelf Done r same = absurd cc
refusing_counts shelf Fault r same = absurd cc
refusing_counts shelf WriteFault r same = absurd cc
refusing_counts shelf SaveFault r same = absurd cc
refusing_counts shelf _ r same = same

-- an answer that refuses a file as it is owed
answer_unloads : {A : Type 0} (comes_to : Files → Result A Refusal → Type 0) (name : List ℕ) (shelf : ShelfCall) (status : Status) (message : List ℕ) (a : Answer)
    → refuses_file status ≡ true → shelf.faults_after ≡ shelf.faults_before → a.status ≡ status → a.message.items ≡ message
    → ((files : Files) → shelf.held ≡ Some files → comes_to files (Err (record { status = status; message = message })))
    → IsUnloaded comes_to name shelf (stopped_is.Refused a)
answer_unloads comes_to name shelf status message a r same ends says found = record {
  nothing =
      subst (λ (s : Status). GivesNothing (λ files x. comes_to files (Err x)) name shelf a.message.items s) (sym ends)
      (subst (λ (m : List ℕ). GivesNothing (λ files x. comes_to files (Err x)) name shelf m status) (sym says) (refusing _ name shelf message status r found));
  counts = subst (CountsShelf shelf) (sym ends) (refusing_counts shelf status r same);
}

-- no file is loaded where memory is refused
pub memory_unloads : {A : Type 0} (comes_to : Files → Result A Refusal → Type 0) (name : List ℕ) (shelf : ShelfCall) → IsUnloaded comes_to name shelf stopped_is.NoMemory
memory_unloads comes_to name shelf = record { nothing = refl; counts = tt }

-- a file that the shelf tells, within its limit
pub file_loaded : (held : Option Files) (files : Files) (status : Status) (limit : ℕ) (name bytes : List ℕ) → held ≡ Some files → Holds held name bytes → length bytes ≤ limit
    → loaded status limit name (files name) ≡ Ok bytes
file_loaded held files status limit name bytes told holds le =
    let at_ : files name ≡ Some bytes = subst (λ (h : Option Files). Holds h name bytes) told holds refl in
    let over : nat_lt limit (length bytes) ≡ false = grind (arith, nat_tests, le) in
    ap (loaded status limit name) at_ ∙ ap (λ (b : Bool). if b then Err (refusal status name (codes ": TooLong")) else Ok bytes) over

-- a refusal that is owed
pub refusal_unloads : {A : Type 0} (comes_to : Files → Result A Refusal → Type 0) (name : List ℕ) (shelf : ShelfCall) (status : Status) (message : List ℕ) (stopped : Stopped)
    → refuses_file status ≡ true → shelf.faults_after ≡ shelf.faults_before → IsRefusedAs status message stopped
    → ((files : Files) → shelf.held ≡ Some files → comes_to files (Err (record { status = status; message = message }))) → IsUnloaded comes_to name shelf stopped
refusal_unloads comes_to name shelf status message (stopped_is.Refused a) r same is found = answer_unloads comes_to name shelf status message a r same is.ends is.says found
refusal_unloads comes_to name shelf status message stopped_is.NoMemory r same is found = memory_unloads comes_to name shelf
refusal_unloads comes_to name shelf status message _ r same is found = absurd is

-- a script that means something
pub script_loaded : {A : Type 0} (means : List ℕ → A → Type 0) (refuses : List ℕ → ScriptFault → Type 0) (source : Files → Result (List ℕ) Refusal) (name src : List ℕ) (shelf : ShelfCall) (a : A)
    → IsLoaded (λ files found. source files ≡ found) shelf src → means src a → IsLoaded (λ files. ComesTo means refuses name (source files)) shelf a
script_loaded means refuses source name src shelf a is it = record { found = λ files told. stands_for src a (is.found files told) it; counts = is.counts }

-- a script that is refused at a place
pub script_unloads : {A : Type 0} (means : List ℕ → A → Type 0) (refuses : List ℕ → ScriptFault → Type 0) (source : Files → Result (List ℕ) Refusal) (name src : List ℕ) (shelf : ShelfCall) (fault : ScriptFault)
    (stopped : Stopped) → shelf.faults_after ≡ shelf.faults_before → ((files : Files) → shelf.held ≡ Some files → source files ≡ Ok src) → refuses src fault
    → IsScriptRefused name src fault stopped → IsUnloaded (λ files. ComesTo means refuses name (source files)) name shelf stopped
script_unloads means refuses source name src shelf (script_fault.Refused kind at) stopped same given found is =
    refusal_unloads _ name shelf Script _ stopped refl same is (λ files told. refused_at src kind at (given files told) found)
script_unloads means refuses source name src shelf script_fault.NoMemory stopped same given found is =
    subst (λ (e : Stopped). IsUnloaded (λ files. ComesTo means refuses name (source files)) name shelf e) (sym is) (memory_unloads _ name shelf)

-- an agent file that is refused for a record
pub record_unloads : (program : Program) (name bytes : List ℕ) (shelf : ShelfCall) (fault : RowFault) (stopped : Stopped)
    → shelf.faults_after ≡ shelf.faults_before → ((files : Files) → shelf.held ≡ Some files → loaded Agents agents_limit name (files name) ≡ Ok bytes)
    → ((number : ℕ) (kind : RowKind) → fault ≡ row_fault.Bad number kind → file.first_fault program (file.records_of bytes) ≡ Some (number, kind))
    → IsRecordRefused name fault stopped → IsUnloaded (λ files found. agents_of files program name ≡ found) name shelf stopped
record_unloads program name bytes shelf (row_fault.Bad number kind) stopped same source first is =
    refusal_unloads _ name shelf Agents _ stopped refl same is
    (λ files told. ap (world_from program name) (source files told) ∙ ap (unless_faulty name _) (first number kind refl))
record_unloads program name bytes shelf row_fault.NoMemory stopped same source first is =
    subst (λ (e : Stopped). IsUnloaded (λ files found. agents_of files program name ≡ found) name shelf e) (sym is) (memory_unloads _ name shelf)

-- ---- a command that goes no further than its files

-- a file that gives nothing stops a command
nothing_stops : (P : Files → Refusal → Type 0) (name : List ℕ) (shelf : ShelfCall) (message : List ℕ) (status : Status)
    → GivesNothing P name shelf message status → is_stop status ≡ true
nothing_stops P name shelf message ReadFault is = refl
nothing_stops P name shelf message NoMemory is = refl
nothing_stops P name shelf message _ is = is.stops

-- a refusal that is an outcome of the command
refusal_answer : (files : Files) (command : Option Command) (shelf : ShelfCall) (out : SinkCall) (message : List ℕ) (status : Status)
    → CommandOutcome files command (refused (record { status = status; message = message }))
    → IsEnd files status shelf out message (refused (record { status = status; message = message }))
    → Among (CommandOutcome files command) (IsEnd files status shelf out message)
refusal_answer files command shelf out message status is end = record { one = _; is = is; holds = end }

-- a file that a command reads and that gives nothing stops it
stops : (P : Files → Refusal → Type 0) (name : List ℕ) (command : Option Command) (shelf : ShelfCall) (message : List ℕ) (status : Status)
    → ((files : Files) → shelf.held ≡ Some files → status ≡ ReadFault → Reads files command name)
    → ((files : Files) (r : Refusal) → shelf.held ≡ Some files → P files r → CommandOutcome files command (refused r))
    → GivesNothing P name shelf message status → IsStopped command shelf message status
stops P name command shelf message ReadFault reads up is files out told held same = record { one = name; is = reads files told refl; holds = is }
stops P name command shelf message NoMemory reads up is files out told held same = record { leaves = inl (record { unwritten = same; unsaved = held }); says = is }
stops P name command shelf message Done reads up is files out told held same = absurd (let e = is.stops in cc)
stops P name command shelf message Fault reads up is files out told held same = absurd (let e = is.stops in cc)
stops P name command shelf message WriteFault reads up is files out told held same = absurd (let e = is.stops in cc)
stops P name command shelf message SaveFault reads up is files out told held same = absurd (let e = is.stops in cc)
stops P name command shelf message status reads up is files out told held same =
    refusal_answer files command shelf out message status (up files _ told (is.found files told))
    (record { ends = refl; gained = same; holds = held ∙ told; says = refl })

-- a file that gives nothing stops a command, which reads it where its status says that a read failed
pub stop_before : {S A : Type 0} (of_shelf : shelf_trait.Ghosts S) (command : Command) (s t : S)
    (comes_to : Files → Result A Refusal → Type 0) (name : List ℕ) (e : Stopped)
    → ((files : Files) → of_shelf.held s ≡ Some files → stopped_status e ≡ ReadFault → Reads files (Some command) name)
    → ((files : Files) (r : Refusal) → of_shelf.held s ≡ Some files → comes_to files (Err r) → CommandOutcome files (Some command) (refused r))
    → of_shelf.held t ≡ of_shelf.held s → IsUnloaded comes_to name (shelf_call of_shelf s t) e → IsStoppedBefore of_shelf command s t e
stop_before of_shelf command s t comes_to name e reads up held is =
    let P : Files → Refusal → Type 0 = λ files r. comes_to files (Err r) in
    record {
      stopped = stops P name (Some command) (shelf_call of_shelf s t) _ _ reads up is.nothing;
      stops = nothing_stops P name (shelf_call of_shelf s t) _ _ is.nothing;
      counts = is.counts;
      halts = record {
        read = λ failed.
            let unread = subst (GivesNothing P name (shelf_call of_shelf s t) (stopped_message e)) failed is.nothing in
            record { name = name; at_name = subst (λ (h : Option Files). StoppedAt h (of_shelf.stage t) name) (sym held) unread.stopped };
        saved = λ f.
            let g : is_stop SaveFault ≡ true = subst (λ (x : Status). is_stop x ≡ true) f (nothing_stops P name (shelf_call of_shelf s t) _ _ is.nothing) in
            absurd cc;
      };
      unsaved = held;
    }

-- a file that a command reads and that gives nothing stops it
pub stopped_before : {S A : Type 0} (of_shelf : shelf_trait.Ghosts S) (command : Command) (s t : S)
    (comes_to : Files → Result A Refusal → Type 0) (name : List ℕ) (e : Stopped)
    → ((files : Files) → of_shelf.held s ≡ Some files → Reads files (Some command) name)
    → ((files : Files) (r : Refusal) → of_shelf.held s ≡ Some files → comes_to files (Err r) → CommandOutcome files (Some command) (refused r))
    → of_shelf.held t ≡ of_shelf.held s → IsUnloaded comes_to name (shelf_call of_shelf s t) e → IsStoppedBefore of_shelf command s t e
stopped_before of_shelf command s t comes_to name e reads up held is =
    stop_before of_shelf command s t comes_to name e (λ files told failed. reads files told) up held is

-- the script of a trial stops it where no read failed
pub trial_stopped_before : {S : Type 0} (of_shelf : shelf_trait.Ghosts S) (trial : TrialCommand) (s : S) (e : Stopped)
    → (stopped_status e ≡ ReadFault → ⊥) → IsUnloaded (λ files. TrialProgram) (codes "trial") (shelf_call of_shelf s s) e
    → IsStoppedBefore of_shelf (Trial trial) s s e
trial_stopped_before of_shelf trial s e never is =
    stop_before of_shelf (Trial trial) s s (λ files. TrialProgram) (codes "trial") e (λ files told failed. absurd (never failed))
    (λ files r told found. record { found = Err r; is = found; follows = refl }) refl is

-- a command that is stopped before its work is served
pub stopped_serves : {S O : Type 0} (of_shelf : shelf_trait.Ghosts S) (of_sink : sink_trait.Ghosts O) (command : Command) (s t : S) (o : O) (e : Stopped)
    → IsStoppedBefore of_shelf command s t e → IsServed of_shelf of_sink (Some command) s t o o (Err e)
stopped_serves of_shelf of_sink command s t o e is = record {
  answered = λ files told. is.stopped files (sink_call of_sink o o) told is.unsaved refl;
  usage = λ e. absurd (stop_usage _ is.stops e);
  no_command = λ none. absurd cc;
  counts = is.counts;
  reads = λ never. stop_reads (shelf_call of_shelf s t) _ is.stops is.counts;
  stops = is.halts;
  writes = stop_writes (sink_call of_sink o o) _ is.stops;
  untouched = λ r. refl;
  untouched_by_usage = λ e. refl;
  unsaved = λ r. is.unsaved;
  clean = stop_runs _ _ is.stops;
}

-- no read fails where a script is refused
pub script_unread : (name src : List ℕ) (fault : ScriptFault) (stopped : Stopped) → IsScriptRefused name src fault stopped → stopped_status stopped ≡ ReadFault → ⊥
script_unread name src (script_fault.Refused kind at) (stopped_is.Refused a) is e = let f : Script ≡ ReadFault = sym is.ends ∙ e in absurd cc
script_unread name src (script_fault.Refused kind at) stopped_is.NoMemory is e = absurd cc
script_unread name src script_fault.NoMemory stopped is e = let f : NoMemory ≡ ReadFault = sym (ap stopped_status is) ∙ e in absurd cc
script_unread name src (script_fault.Refused kind at) _ is e = absurd is

-- ---- a command that is carried out

-- what holds of one among some holds of one among all
among_as : {A : Type 0} (these all fact : A → Type 0) → ((x : A) → these x → all x) → Among these fact → Among all fact
among_as these all fact up a = record { one = a.one; is = up a.one a.is; holds = a.holds }

-- what was carried out for some outcomes was carried out for all among which they are
carried_as : (files : Files) (these all : Outcome → Type 0) (shelf : ShelfCall) (out : SinkCall) (message : List ℕ) (status : Status) → ((o : Outcome) → these o → all o)
    → IsCarriedOut files these shelf out message status → IsCarriedOut files all shelf out message status
carried_as files these all shelf out message ReadFault up is = is
carried_as files these all shelf out message NoMemory up is = record { leaves = leaves_as is.leaves; says = is.says }
  where
    leaves_as : LeavesAll shelf out ⊎ Among these (LeavesFront files shelf out) → LeavesAll shelf out ⊎ Among all (LeavesFront files shelf out)
    leaves_as (inl none) = inl none
    leaves_as (inr a) = inr (among_as these all (LeavesFront files shelf out) up a)
carried_as files these all shelf out message _ up is = among_as these all _ up is

-- what was carried out for the outcomes of a command answers it
carried_answer : (files : Files) (command : Option Command) (shelf : ShelfCall) (out : SinkCall) (message : List ℕ) (status : Status)
    → IsCarriedOut files (CommandOutcome files command) shelf out message status → IsAnswer files command shelf out message status
carried_answer files command shelf out message ReadFault is = absurd is
carried_answer files command shelf out message _ is = is

-- what was carried out for outcomes of a command answers it
answers : (these : Outcome → Type 0) (files : Files) (command : Option Command) (shelf : ShelfCall) (out : SinkCall) (message : List ℕ) (status : Status)
    → ((o : Outcome) → these o → CommandOutcome files command o) → IsCarriedOut files these shelf out message status → IsAnswer files command shelf out message status
answers these files command shelf out message status up is =
    carried_answer files command shelf out message status (carried_as files these (CommandOutcome files command) shelf out message status up is)

-- a command whose work was carried out is served
work_serves : {S O : Type 0} (of_shelf : shelf_trait.Ghosts S) (of_sink : sink_trait.Ghosts O) (asked : Option Command) (s t : S) (o p : O) (r : Result Answer Stopped)
    (these : Outcome → Type 0) → (asked ≡ None → ⊥) → ((files : Files) (x : Outcome) → of_shelf.held s ≡ Some files → these x → CommandOutcome files asked x)
    → ((files : Files) → of_shelf.held s ≡ Some files → IsCarriedOut files these (shelf_call of_shelf s t) (sink_call of_sink o p) (message_in r) (status_in r))
    → is_work (status_in r) ≡ true → CountsShelf (shelf_call of_shelf s t) (status_in r)
    → (may_save asked ≡ false → CountsReads (shelf_call of_shelf s t) (status_in r)) → StopsShelf (shelf_call of_shelf s t) (status_in r)
    → CountsWrites (sink_call of_sink o p) (status_in r)
    → (has_run (status_in r) ≡ true → of_sink.clean p ≡ true) → IsServed of_shelf of_sink asked s t o p r
work_serves of_shelf of_sink asked s t o p r these is_command up is work counts reads stops writes clean = record {
  answered = λ files told. answers these files asked (shelf_call of_shelf s t) (sink_call of_sink o p) _ _ (λ x of_these. up files x told of_these) (is files told);
  usage = λ e. absurd (work_usage _ work e);
  no_command = λ none. absurd (is_command none);
  counts = counts;
  reads = reads;
  stops = stops;
  writes = writes;
  untouched = work_refusal _ _ work;
  untouched_by_usage = λ e. absurd (work_usage _ work e);
  unsaved = work_saves _ _ work;
  clean = clean;
}

-- a command that saves nothing, and whose work was carried out, is served
pub plain_work_serves : {S O : Type 0} (of_shelf : shelf_trait.Ghosts S) (of_sink : sink_trait.Ghosts O) (asked : Option Command) (s t : S) (o p : O) (r : Result Answer Stopped)
    (these : Outcome → Type 0) → (asked ≡ None → ⊥) → of_shelf.held t ≡ of_shelf.held s → of_shelf.faults t ≡ of_shelf.faults s
    → ((files : Files) (x : Outcome) → of_shelf.held s ≡ Some files → these x → CommandOutcome files asked x)
    → IsWritten these (sink_call of_sink o p) (message_in r) (status_in r)
    → is_plain_work (status_in r) ≡ true → CountsWrites (sink_call of_sink o p) (status_in r)
    → (has_run (status_in r) ≡ true → of_sink.clean p ≡ true) → IsServed of_shelf of_sink asked s t o p r
plain_work_serves of_shelf of_sink asked s t o p r these is_command held faults up is work writes clean =
    work_serves of_shelf of_sink asked s t o p r these is_command up (λ files told. is files (shelf_call of_shelf s t) told held)
    (plain_works _ work) (plain_counts (shelf_call of_shelf s t) _ work faults) (λ never. plain_reads (shelf_call of_shelf s t) _ work faults)
    (plain_stops (shelf_call of_shelf s t) _ work) writes clean

-- what a task comes to that can begin is the command's
abbrev is_of : {S : Type 0} {of_shelf : shelf_trait.Ghosts S} {asked : Option Command} {s m : S} {task : Task} → IsReady of_shelf asked s m task
    → (files : Files) (x : Outcome) → of_shelf.held s ≡ Some files → x ≡ outcome_of task → CommandOutcome files asked x
is_of {asked = asked} ready files x told e = subst (CommandOutcome files asked) (sym e) (ready.outcome files told)

-- a task that begins behind its last tick, and that was answered, serves its command
pub none_serves : {S O : Type 0} (of_shelf : shelf_trait.Ghosts S) (of_sink : sink_trait.Ghosts O) (asked : Option Command) (s m : S) (o p : O) (r : Result Answer Stopped) (task : Task)
    → IsReady of_shelf asked s m task → IsWritten (λ x. x ≡ outcome_of task) (sink_call of_sink o p) (message_in r) (status_in r)
    → is_plain_work (status_in r) ≡ true → CountsWrites (sink_call of_sink o p) (status_in r)
    → (has_run (status_in r) ≡ true → of_sink.clean p ≡ true) → IsServed of_shelf of_sink asked s m o p r
none_serves of_shelf of_sink asked s m o p r task ready is work writes clean =
    plain_work_serves of_shelf of_sink asked s m o p r (λ x. x ≡ outcome_of task) ready.is_command ready.unsaved ready.counts (is_of ready) is work writes clean

-- a task that saves nothing, and that was carried out apart from the shelf, serves its command
pub plain_serves : {S O : Type 0} (of_shelf : shelf_trait.Ghosts S) (of_sink : sink_trait.Ghosts O) (asked : Option Command) (s m : S) (o n p : O) (w : Result Work Stopped) (r : Result Answer Stopped)
    (task : Task) (kept : ShelfCall) → w ≡ Ok (work.Plain task) → IsPrepared of_shelf of_sink asked s m o n w → IsRunOf of_sink task kept n p r → IsServed of_shelf of_sink asked s m o p r
plain_serves {O = O} of_shelf of_sink asked s m o n p w r task kept is prepared run =
    let (ready, begins, same, bare) = subst (IsPrepared of_shelf of_sink asked s m o n) is prepared in
    subst (λ (x : O). IsServed of_shelf of_sink asked s m x p r) same
    (none_serves of_shelf of_sink asked s m n p r task ready (run.written bare) (run.plain bare) run.writes run.clean)

-- a task that saves files, and that was carried out on the shelf, serves its command
pub saving_serves : {S O : Type 0} (of_shelf : shelf_trait.Ghosts S) (of_sink : sink_trait.Ghosts O) (asked : Option Command) (s m u t : S) (o n p : O) (w : Result Work Stopped) (r : Result Answer Stopped)
    (task : Task) → w ≡ Ok (work.Saving task) → IsPrepared of_shelf of_sink asked s m o n w → IsRunOf of_sink task (shelf_call of_shelf m u) n p r → u ≡ t → IsServed of_shelf of_sink asked s t o p r
saving_serves {S = S} {O = O} of_shelf of_sink asked s m u t o n p w r task is prepared run left =
    let (ready, begins, same, saves) = subst (IsPrepared of_shelf of_sink asked s m o n) is prepared in
    let earlier : shelf_call of_shelf m u ≡ shelf_call of_shelf s u = ap (λ (h : Option Files). begun_with h (of_shelf.faults m)) ready.unsaved ∙ ap (begun_with (of_shelf.held s)) ready.counts in
    let later : IsRunOf of_sink task (shelf_call of_shelf s u) n p r = subst (λ (c : ShelfCall). IsRunOf of_sink task c n p r) earlier run in
    subst (λ (x : S). IsServed of_shelf of_sink asked s x o p r) left
    (subst (λ (x : O). IsServed of_shelf of_sink asked s u x p r) same
    (work_serves of_shelf of_sink asked s u n p r (λ x. x ≡ outcome_of task) ready.is_command (is_of ready) later.carried_out
    later.work later.counts (λ never. let e : true ≡ false = sym saves ∙ never in absurd cc) later.stops later.writes later.clean))
  where
    begun_with : Option Files → ℕ → ShelfCall
    begun_with held faults = record {
      held = held;
      held_after = of_shelf.held u;
      stage = of_shelf.stage u;
      faults_before = faults;
      faults_after = of_shelf.faults u;
    }

-- ---- what the parts carry out that save nothing

-- none of an outcome's files are saved
has_saved_none : (files : Files) (shelf : ShelfCall) (out : SinkCall) (o : Outcome) → shelf.held ≡ Some files → shelf.held_after ≡ shelf.held → HasSaved files shelf out o
has_saved_none files shelf out o told held = record { count = 0; holds = held ∙ told; behind = λ k d lt. absurd (omega (arith, lt)) }

-- an outcome that was written whole
pub done_written : (o : Outcome) (out : SinkCall) (message : List ℕ) → o.status ≡ Done → o.saved ≡ [] → Gains out.before out.after o.out → message ≡ o.err
    → IsWritten (λ x. x ≡ o) out message Done
done_written o out message done none gains says files shelf told held = record {
  one = o;
  is = refl;
  holds = record { ends = sym done; gained = gains; holds = held ∙ told ∙ ap (λ (s : List Saving). Some (with_saved files s)) (sym none); says = says };
}

-- the answer of an outcome that was written whole
pub told_written : (o : Outcome) (out : SinkCall) (message : List ℕ) (answer : Answer) → IsOf Done message answer → o.status ≡ Done → o.saved ≡ []
    → Gains out.before out.after o.out → message ≡ o.err → IsWritten (λ x. x ≡ o) out answer.message.items answer.status
told_written o out message answer told done none gains says =
    subst (λ (s : Status). IsWritten (λ x. x ≡ o) out answer.message.items s) (sym told.ends)
    (done_written o out answer.message.items done none gains (told.says ∙ says))

-- an outcome whose text was not written whole
pub unwritten_written : (o : Outcome) (out : SinkCall) → has_run o.status ≡ true → Rose out.faults_before out.faults_after → GainsFront out.before out.after o.out
    → IsWritten (λ x. x ≡ o) out write_fault_message WriteFault
unwritten_written o out runs rose front files shelf told held = record {
  one = o;
  is = refl;
  holds = record { runs = runs; failed = rose; front = front; saved = has_saved_none files shelf out o told held; says = refl };
}

-- a count that rose later rose
pub rose_before : (a b c : ℕ) → a ≤ b → Rose b c → Rose a c
rose_before a b c le rose = omega arith

-- a whole text is a front of itself
pub front_all : (a b : Option (List ℕ)) (p : List ℕ) → Gains a b p → GainsFront a b p
front_all a b p h = (length p, (omega arith, h ∙ ap (with_piece a) (sym (take_all (length p) p (omega arith)))))

-- ---- the outcomes of a run

-- a file that is refused with which a run begins
pub start_refused : (files : Files) (run : RunCommand) (program : Program) (r : Refusal) → BeginsAt files program run.start (Err r) → RunOutcome files run program (refused r)
start_refused files run program r is = record { found = Err r; is = is; follows = refl }

-- what the plan of a run comes to follows on the moment at which it begins
plan_follows : (files : Files) (run : RunCommand) (program : Program) (moment : Moment) (found : Result CutPlan Refusal) (o : Outcome) → BeginsAt files program run.start (Ok moment)
    → plan_of files run.manner.epoch run.cuts ≡ found → FollowedBy (RunOver files run program moment) found o → RunOutcome files run program o
plan_follows files run program moment found o is f follows = record {
  found = Ok moment;
  is = is;
  follows = subst (λ (found : Result CutPlan Refusal). FollowedBy (RunOver files run program moment) found o) (sym f) follows;
}

-- a refused cut plan
pub plan_refused : (files : Files) (run : RunCommand) (program : Program) (moment : Moment) (r : Refusal) → BeginsAt files program run.start (Ok moment)
    → plan_of files run.manner.epoch run.cuts ≡ Err r → RunOutcome files run program (refused r)
plan_refused files run program moment r is f = plan_follows files run program moment (Err r) (refused r) is f refl

-- a run over a plan, by what its watch file comes to
run_over : (files : Files) (run : RunCommand) (program : Program) (moment : Moment) (plan : CutPlan) (found : Result (List Watch) Refusal) (o : Outcome) → BeginsAt files program run.start (Ok moment)
    → plan_of files run.manner.epoch run.cuts ≡ Ok plan → watches_of files program run.watch ≡ found
    → FollowedBy (λ watches o. o ≡ ran run.manner.stats (saves_of run watches) (is_anew run.start) (setting_of run program moment plan)) found o → RunOutcome files run program o
run_over files run program moment plan found o is f g follows =
    plan_follows files run program moment (Ok plan) o is f
    (subst (λ (r : Result (List Watch) Refusal). FollowedBy (λ watches o. o ≡ ran run.manner.stats (saves_of run watches) (is_anew run.start) (setting_of run program moment plan)) r o) (sym g) follows)

-- a refused watch file
pub watch_refused : (files : Files) (run : RunCommand) (program : Program) (moment : Moment) (plan : CutPlan) (r : Refusal) → BeginsAt files program run.start (Ok moment)
    → plan_of files run.manner.epoch run.cuts ≡ Ok plan → watches_of files program run.watch ≡ Err r → RunOutcome files run program (refused r)
watch_refused files run program moment plan r is f g = run_over files run program moment plan (Err r) (refused r) is f g refl

-- a run over a plan that watches some figures
pub run_ended : (files : Files) (run : RunCommand) (program : Program) (moment : Moment) (plan : CutPlan) (watches : List Watch) (o : Outcome) → BeginsAt files program run.start (Ok moment)
    → plan_of files run.manner.epoch run.cuts ≡ Ok plan → watches_of files program run.watch ≡ Ok watches
    → o ≡ ran run.manner.stats (saves_of run watches) (is_anew run.start) (setting_of run program moment plan) → RunOutcome files run program o
run_ended files run program moment plan watches o is f g ends = run_over files run program moment plan (Ok watches) o is f g ends

-- a name that is given
is_named : (name : Option (List ℕ)) → (name ≡ None → ⊥) → name ≡ Some (unwrap_or name [])
is_named None named = absurd (named refl)
is_named (Some name) named = refl

-- a cut plan is read where one is named
pub plan_read : (files : Files) (run : RunCommand) (program : Program) (moment : Moment) → ProgramOf files run.script (Ok program)
    → BeginsAt files program run.start (Ok moment) → (run.cuts ≡ None → ⊥) → Reads files (Some (Run run)) (unwrap_or run.cuts [])
plan_read files run program moment is f named = reads_plan run program moment (unwrap_or run.cuts []) is f (is_named run.cuts named)

-- a watch file is read where one is named
pub watch_read : (files : Files) (run : RunCommand) (program : Program) (moment : Moment) (plan : CutPlan) → ProgramOf files run.script (Ok program)
    → BeginsAt files program run.start (Ok moment) → plan_of files run.manner.epoch run.cuts ≡ Ok plan → (run.watch ≡ None → ⊥) → Reads files (Some (Run run)) (unwrap_or run.watch [])
watch_read files run program moment plan is f g named = reads_watch run program moment plan (unwrap_or run.watch []) is f g (is_named run.watch named)

-- what is none once it is told otherwise is none
pub none_of : {A B : Type 0} (f : A → B) (found : Option A) → option_map f found ≡ None → found ≡ None
none_of f None e = refl
none_of f (Some a) e = absurd cc

-- the setting of a run whose numbers are in range is lawful where its program, its moment and its plan are
pub run_is_lawful : (run : CodeRun) (program : Program) (moment : Moment) (plan : CutPlan) → IsRunInRange run → LawfulProgram program
    → LawfulAgents program moment.world.agents → IsNumbered moment.world → moment.tick ≤ 2 ^ 32 → IsPlan run.manner.epoch plan
    → LawfulSetting (setting_of (said_run run) program moment plan)
run_is_lawful run program moment plan range lawful agents numbered first fits = record {
  job_is_lawful = record {
    program_is_lawful = lawful;
    start_is_lawful = agents;
    first_in_range = first;
    last_in_range = range.ticks;
    publishes = range.every;
  };
  start_is_numbered = numbered;
  epochs_have_ticks = range.manner.some_ticks;
  epochs_are_short = range.manner.few_ticks;
  plan_is_lawful = fits;
}

-- the world of an agent file
pub world_read : (program : Program) (files : Files) (name bytes : List ℕ) (world : World) → loaded Agents agents_limit name (files name) ≡ Ok bytes
    → file.first_fault program (file.records_of bytes) ≡ None → world ≡ world_of (file.by_id (file.agents_in program (file.records_of bytes))) → agents_of files program name ≡ Ok world
world_read program files name bytes world e none is = ap (world_from program name) e ∙ ap (unless_faulty name _) none ∙ ap (λ (w : World). Ok w) (sym is)

-- ---- the words

-- words that ask for more workers than a line was found to ask for were not read for want of memory
pub several_unread : (words : List (List ℕ)) (line : Result Line LineFault) (n : ℕ) → IsReadAs words line → IfOk line (λ l. n ≡ workers_of (Some l)) → n ≤ 1
    → 1 < workers_asked words → line ≡ Err line_fault.NoMemory
several_unread words (Ok l) n is asks one more =
    let same : workers_asked words ≡ n = ap workers_of is.line_is ∙ sym asks in
    absurd (omega (arith, same, one, more))
several_unread words (Err line_fault.NoMemory) n is asks one more = refl
several_unread words (Err line_fault.Usage) n is asks one more =
    let alone : workers_asked words ≡ 1 = ap workers_of (is.none_is refl) in
    absurd (omega (arith, alone, more))

-- memory was refused before anything was written
memory_answer : (files : Files) (found : Option Command) (shelf : ShelfCall) (out : SinkCall) → shelf.held_after ≡ shelf.held → out.after ≡ out.before
    → IsAnswer files found shelf out no_memory_message NoMemory
memory_answer files found shelf out held same = record { leaves = inl (record { unwritten = same; unsaved = held }); says = refl }

-- words that are no command
usage_answer : (found : Option Command) (files : Files) (shelf : ShelfCall) (out : SinkCall) → found ≡ None → shelf.held ≡ Some files
    → shelf.held_after ≡ shelf.held → out.after ≡ out.before → IsAnswer files found shelf out usage_message Usage
usage_answer found files shelf out e told held same =
    subst (λ (c : Option Command). Among (CommandOutcome files c) (IsEnd files Usage shelf out usage_message)) (sym e)
    (record { one = _; is = refl; holds = record { ends = refl; gained = same; holds = held ∙ told; says = refl } })

-- what is prepared for a command is prepared for words that ask for it
pub asked_prepared : {S O : Type 0} (of_shelf : shelf_trait.Ghosts S) (of_sink : sink_trait.Ghosts O) (found : Option Command) (command : Command) (s t : S) (o p : O) (r : Result Work Stopped)
    → found ≡ Some command → IsPrepared of_shelf of_sink (Some command) s t o p r → IsPrepared of_shelf of_sink found s t o p r
asked_prepared of_shelf of_sink found command s t o p r e is = subst (λ (c : Option Command). IsPrepared of_shelf of_sink c s t o p r) (sym e) is

-- where nothing was touched and no part was run a command, or words that ask for none, are served
untouched_serves : {S O : Type 0} (of_shelf : shelf_trait.Ghosts S) (of_sink : sink_trait.Ghosts O) (command : Option Command) (s : S) (o : O) (e : Stopped)
    → ((files : Files) → of_shelf.held s ≡ Some files → IsAnswer files command (shelf_call of_shelf s s) (sink_call of_sink o o) (stopped_message e) (stopped_status e))
    → (stopped_status e ≡ Usage → command ≡ None) → (command ≡ None → (stopped_status e ≡ Usage) ⊎ (stopped_status e ≡ NoMemory))
    → CountsShelf (shelf_call of_shelf s s) (stopped_status e) → (may_save command ≡ false → CountsReads (shelf_call of_shelf s s) (stopped_status e))
    → StopsShelf (shelf_call of_shelf s s) (stopped_status e) → CountsWrites (sink_call of_sink o o) (stopped_status e) → (has_run (stopped_status e) ≡ true → ⊥)
    → IsServed of_shelf of_sink command s s o o (Err e)
untouched_serves of_shelf of_sink command s o e answered usage no_command counts reads stops writes never = record {
  answered = answered;
  usage = usage;
  no_command = no_command;
  counts = counts;
  reads = reads;
  stops = stops;
  writes = writes;
  untouched = λ r. refl;
  untouched_by_usage = λ e. refl;
  unsaved = λ r. refl;
  clean = λ ran. absurd (never ran);
}

-- words of which no command was read are served where nothing was touched
pub unasked_serves : {S O : Type 0} (of_shelf : shelf_trait.Ghosts S) (of_sink : sink_trait.Ghosts O) (words : List (List ℕ)) (s : S) (o : O) (e : Stopped)
    → IsUnasked words e → IsServed of_shelf of_sink (command_of words) s s o o (Err e)
unasked_serves of_shelf of_sink words s o stopped_is.Usage none =
    untouched_serves of_shelf of_sink (command_of words) s o stopped_is.Usage
    (λ files told. usage_answer (command_of words) files (shelf_call of_shelf s s) (sink_call of_sink o o) none told refl refl)
    (λ e. none) (λ e. inl refl) refl (λ never. refl) (record { read = λ e. absurd cc; saved = λ e. absurd cc }) (λ e. absurd cc) (λ ran. cc)
unasked_serves of_shelf of_sink words s o stopped_is.NoMemory none =
    untouched_serves of_shelf of_sink (command_of words) s o stopped_is.NoMemory
    (λ files told. memory_answer files (command_of words) (shelf_call of_shelf s s) (sink_call of_sink o o) refl refl)
    (λ e. absurd cc) (λ e. inr refl) tt (λ never. tt) (record { read = λ e. absurd cc; saved = λ e. absurd cc }) (λ e. absurd cc) (λ ran. cc)
unasked_serves of_shelf of_sink words s o (stopped_is.Refused a) none = absurd none
unasked_serves of_shelf of_sink words s o stopped_is.WriteFault none = absurd none
