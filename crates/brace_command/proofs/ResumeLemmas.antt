-- A run that is resumed from a checkpoint goes on as the first one does.
use Rattle.std.proofs.Common.{◌≡◌, ◌∙◌, refl, sym, ap, subst, ℕ, ◌+◌, ◌-◌, ◌≤◌, List, ◌++◌, Bool, true, false, Some, Result, Ok}
use Rattle.brace_io.specs.Shelves.{Files}
use Rattle.brace_cuts.specs.declared.plan.CutPlan.{CutPlan}
use Rattle.brace_watch.specs.declared.kinds.Watch.{Watch}
use Rattle.brace_model.specs.declared.fault.Fault.{Fault}
use Rattle.brace_model.specs.declared.job.Job.{Job}
use Rattle.brace_model.specs.declared.program.Program.{Program}
use Rattle.brace_model.specs.Lawful.{LawfulProgram}
use Rattle.brace_model.specs.Published.{published, text_of_ticks}
use Rattle.brace_model.specs.Run.{first_fault, world_after}
use Rattle.brace_model.specs.World.{World}
use Rattle.brace_save.specs.Lines.{IsRead, IsText, read, unfinished, whole_lines}
use Rattle.brace_save.specs.Texts.{Moment, lines}
use Rattle.brace_save.proofs.Feeds.{lines_one, none_unfinished, whole_text}
use Rattle.brace_save.proofs.Sizes.{text_short}
use Rattle.brace_command.specs.Limits.{checkpoint_limit}
use Rattle.brace_command.specs.declared.status.Status.TheVariants.{Checkpoint}
use Rattle.brace_command.specs.Commands.{Run, RunCommand, Start, is_anew}
use Rattle.brace_command.specs.Messages.{fault_message}
use Rattle.brace_command.specs.Outcome.{BeginsAt, CommandOutcome, ComesTo, FollowedBy, Follows, Outcome, ProgramOf, Refusal, RunFrom, RunOutcome, RunOver, end_message, end_status, loaded, plan_of, ran, saves_of, setting_of, source_of, stands_for, watches_of}
use Rattle.brace_command.specs.Restarts.{GoesOn, from_tick, told_world}
use Rattle.brace_command.specs.Scripts.{Means, Refuses}
use Rattle.brace_command.proofs.AnswerLemmas.{file_loaded}
use Rattle.brace_command.proofs.NextLemmas.{first_fault_told, published_told, started}
use Rattle.brace_command.proofs.OneOutcome.{one_program_found}
use Rattle.brace_command.proofs.PointLemmas.{one_beginning, point_read}
use Rattle.brace_command.proofs.RestartLemmas.{fault-anew, rows-anew}
use Rattle.brace_command.proofs.ScriptLemmas.{meant_lawful}

-- a text of a moment is read as the moment
is_read : (program : Program) (m : Moment) (bytes : List ℕ) → LawfulProgram program → IsText program m bytes → IsRead program (whole_lines bytes) (unfinished bytes) (Ok m)
is_read program m bytes lawful is =
    let all = lines program is.tells_next m in
    let one = lines_one program is.tells_next m lawful is.moment_is in
    read m (record { tells_next = is.tells_next; moment_is = is.moment_is; same = ap whole_lines is.same ∙ whole_text all one }) (ap unfinished is.same ∙ none_unfinished all one)

-- the program that a script means is lawful
lawful_of : (name : List ℕ) (source : Result (List ℕ) Refusal) (program : Program) → ComesTo Means Refuses name source (Ok program) → LawfulProgram program
lawful_of name source _ (stands_for src program e m) = meant_lawful src program m

-- the outcome of a run whose files are accepted is that of its setting
module _ (files : Files) (run : RunCommand) (program : Program) (moment : Moment) (plan : CutPlan) (watches : List Watch) (means : ProgramOf files run.script (Ok program))
    (begins : BeginsAt files program run.start (Ok moment)) (cut : plan_of files run.manner.epoch run.cuts ≡ Ok plan) (watched : watches_of files program run.watch ≡ Ok watches) where
  lawful : LawfulProgram program
  lawful = lawful_of run.script (source_of files run.script) program means

  over_plan : (o : Outcome) → RunFrom files run program moment o → o ≡ ran run.manner.stats (saves_of run watches) (is_anew run.start) (setting_of run program moment plan)
  over_plan o f =
      subst (λ (found : Result (List Watch) Refusal). FollowedBy (λ watches o. o ≡ ran run.manner.stats (saves_of run watches) (is_anew run.start) (setting_of run program moment plan)) found o) watched
      (subst (λ (found : Result CutPlan Refusal). FollowedBy (RunOver files run program moment) found o) cut f)

  from_moment : (o : Outcome) → Follows (BeginsAt files program run.start) (RunFrom files run program) o → RunFrom files run program moment o
  from_moment o f =
      subst (λ (found : Result Moment Refusal). FollowedBy (RunFrom files run program) found o) (sym (one_beginning files program run.start (Ok moment) f.found lawful begins f.is)) f.follows

  pub run_is : (o : Outcome) → CommandOutcome files (Some (Run run)) o → o ≡ ran run.manner.stats (saves_of run watches) (is_anew run.start) (setting_of run program moment plan)
  run_is o f =
      over_plan o (from_moment o (subst (λ (found : Result Program Refusal). FollowedBy (RunOutcome files run) found o)
      (sym (one_program_found run.script (source_of files run.script) program f.found means f.is)) f.follows))

module _ (files : Files) (job : Job) (tick : ℕ) (world : World) (run : RunCommand) (o : Outcome) (from : job.first ≤ tick) (to_ : tick ≤ job.last)
    (reached : world_after job (tick - job.first) ≡ Ok world) (goes_on : GoesOn files job tick world run) (is : CommandOutcome files (Some (Run run)) o) where
  abbrev told : World
  told = told_world job.program world

  abbrev moment_ : Moment
  moment_ = record { tick = tick; seed = job.seed; world = told }

  abbrev later : Job
  later = from_tick job tick world

  abbrev resumed : Job
  resumed = started later told

  lawful_job : LawfulProgram job.program
  lawful_job = lawful_of run.script (source_of files run.script) job.program goes_on.means

  -- a checkpoint is within its limit
  loads : loaded Checkpoint checkpoint_limit goes_on.name (files goes_on.name) ≡ Ok goes_on.bytes
  loads =
      file_loaded (Some files) files Checkpoint checkpoint_limit goes_on.name goes_on.bytes refl
      (λ told. goes_on.held) (text_short job.program moment_ goes_on.bytes lawful_job goes_on.tells)

  begins : BeginsAt files job.program run.start (Ok moment_)
  begins =
      subst (λ (start : Start). BeginsAt files job.program start (Ok moment_)) (sym goes_on.begins)
      (point_read job.program files goes_on.name goes_on.bytes moment_ loads
      (is_read job.program moment_ goes_on.bytes lawful_job goes_on.tells))

  job_is : (setting_of run job.program moment_ goes_on.plan).job ≡ resumed
  job_is =
      ap (λ (last : ℕ). record { program = job.program; seed = job.seed; first = tick; last = last; every = run.every; start = told }) goes_on.last
      ∙ ap (λ (every : ℕ). record { program = job.program; seed = job.seed; first = tick; last = job.last; every = every; start = told }) goes_on.every

  not_anew : is_anew run.start ≡ false
  not_anew = ap is_anew goes_on.begins

  outcome : o ≡ ran run.manner.stats (saves_of run goes_on.watches) false (setting_of run job.program moment_ goes_on.plan)
  outcome =
      run_is files run job.program moment_ goes_on.plan goes_on.watches goes_on.means begins goes_on.cut goes_on.watched o is
      ∙ ap (λ (fresh : Bool). ran run.manner.stats (saves_of run goes_on.watches) fresh (setting_of run job.program moment_ goes_on.plan)) not_anew

  fault_is : first_fault (setting_of run job.program moment_ goes_on.plan).job ≡ first_fault job
  fault_is = ap first_fault job_is ∙ first_fault_told later world ∙ fault-anew job tick world from to_ reached

  -- its rows stand behind those up to its first tick
  pub rows_go_on : published job true ≡ text_of_ticks job true (1 + (tick - job.first)) ++ o.out
  rows_go_on =
      rows-anew job tick world from to_ reached
      ∙ ap (λ (text : List ℕ). text_of_ticks job true (1 + (tick - job.first)) ++ text)
      (sym (ap (λ (x : Outcome). x.out) outcome ∙ ap (λ (j : Job). published j false) job_is ∙ published_told later world false))

  -- it ends as the first run does
  pub ends_alike : o.status ≡ end_status (first_fault job)
  ends_alike = ap (λ (x : Outcome). x.status) outcome ∙ ap end_status fault_is

  -- and names the same fault
  pub fault_alike : (f : Fault) → first_fault job ≡ Some f → o.err ≡ fault_message f
  fault_alike f found = ap (λ (x : Outcome). x.err) outcome ∙ ap (end_message run.manner.stats (setting_of run job.program moment_ goes_on.plan)) (fault_is ∙ found)
