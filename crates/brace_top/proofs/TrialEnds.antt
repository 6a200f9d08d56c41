-- What the publisher of a trial sums up last is the world of its end; and how a trial is carried out.
use Rattle.std.proofs.Common.{ap₂, ◌≡◌, ◌∙◌, refl, sym, ap, subst, ℕ, suc, ◌+◌, ◌-◌, ◌≤◌, List, [], ◌∷◌, ◌++◌, map, filter, fold, Bool, true, false, cond, ◌==◌, Option, Some, None, Result, Ok, Err, ℤ, arith}
use Rattle.std.specs.Prelude.{IfSome}
use Rattle.std.specs.List.{range_with_len}
use Rattle.std.specs.Result.{result_err}
use Rattle.std.proofs.lemmas.List.Elements.{filter-append}
use Rattle.std.proofs.lemmas.List.{map-append}
use Rattle.std.proofs.lemmas.List.Sums.{fold-append}
use Rattle.brace_io.specs.declared.sink.Sink as sink_trait
use Rattle.brace_io.specs.Counts.{Rose}
use Rattle.brace_model.specs.declared.fault.Fault.{Fault}
use Rattle.brace_model.specs.World.{World}
use Rattle.brace_model.specs.Run.{end_of, first_fault}
use Rattle.brace_pieces.specs.declared.setting.Setting.{Setting}
use Rattle.brace_pieces.specs.declared.piece.Shown.{Shown}
use Rattle.brace_pieces.specs.Settings.{is_end, ends}
use Rattle.brace_pieces.proofs.EpochLemmas.{row_one, last_ends, last_is_end}
use Rattle.brace_crew.specs.declared.crew.CrewFault.{CrewFault}
use Rattle.brace_crew.specs.declared.crew.CrewFault.TheVariants as crew
use Rattle.brace_desk.specs.declared.publisher.Publisher as publisher
use Rattle.brace_desk.specs.Calls.{Call, call_at, calls_to, calls}
use Rattle.brace_crew.specs.Came.{HasRun, HasFaulted, CameBy, CameTo}
use Rattle.brace_desk.specs.Shows.{as_world, last_shown, saved_world}
use Rattle.brace_desk.specs.Sums.{sums_of, sums_after}
use Rattle.brace_desk.proofs.TextLemmas.{all_saved}
use Rattle.brace_pieces.specs.Counts.{count_border, count_effects, count_moved, count_handed}
use Rattle.brace_pieces.specs.declared.counts.Counts.{Counts}
use Rattle.brace_command.specs.declared.answer.Answer.{Answer}
use Rattle.brace_command.specs.declared.answer.Stopped.{Stopped}
use Rattle.brace_command.specs.declared.answer.Stopped.TheVariants as stopped
use Rattle.brace_command.specs.declared.command.TrialCommand.{TrialCommand as CodeTrial}
use Rattle.brace_command.specs.declared.task.Task.{Task}
use Rattle.brace_command.specs.declared.status.Status.TheVariants.{Done, WriteFault}
use Rattle.brace_command.specs.Answer.{ShelfCall, sink_call, CountsWrites}
use Rattle.brace_command.specs.Commands.{TrialCommand}
use Rattle.brace_command.specs.Messages.{write_fault_message}
use Rattle.brace_command.specs.Outcome.{Outcome, stats_of, trial_end}
use Rattle.brace_command.specs.Trials.{trial_line}
use Rattle.brace_command.specs.Status.{has_run}
use Rattle.brace_command.specs.Settled.{told_counts, status_in, message_in, is_plain_work, outcome_of, outcome_by, IsWritten, IsRunOf}
use Rattle.brace_command.specs.Words.{said_trial}
use Rattle.brace_command.proofs.AnswerGives.{counts_told}
use Rattle.brace_command.proofs.StatusLemmas.{plain_works, plain_counts, plain_stops}
use Rattle.brace_command.proofs.TrialLemmas.{unflushed_written}

-- ---- the world that is summed up last

module _ (s : Setting) (tick : ℕ) (shown : List Shown) where
  -- nothing is saved where nothing is shown, or where no epoch ends, or where another tick is shown last
  none_at_all : last_shown shown ≡ None → is_end s tick ≡ true → saved_world s tick shown ≡ None
  none_at_all is ends = rw ends (rw is refl)

  none_within : is_end s tick ≡ false → saved_world s tick shown ≡ None
  none_within ends = rw ends refl

  none_of_it : (x : Shown) → last_shown shown ≡ Some x → is_end s tick ≡ true → (x.tick == tick) ≡ false → saved_world s tick shown ≡ None
  none_of_it x is ends other = rw ends (rw is (rw other refl))

  -- else the world that is shown last
  one_of_it : (x : Shown) → last_shown shown ≡ Some x → is_end s tick ≡ true → (x.tick == tick) ≡ true → saved_world s tick shown ≡ Some (as_world x)
  one_of_it x is ends same = rw ends (rw is (rw same refl))

  sums_here : (x : Shown) (sums : ℤ × ℤ) → last_shown shown ≡ Some x → sums_after sums s tick shown ≡ sums_of s.job.program x.agents
  sums_here x sums is = rw is refl

  nothing : (w : World) → saved_world s tick shown ≡ None → saved_world s tick shown ≡ Some w → ⊥
  nothing w none saved = let gone : None ≡ Some w = sym none ∙ saved in absurd (cc (gone))

  sums_at : (w : World) (sums : ℤ × ℤ) (x : Shown) (d : Bool) → last_shown shown ≡ Some x → is_end s tick ≡ true → (x.tick == tick) ≡ d
      → saved_world s tick shown ≡ Some w → sums_after sums s tick shown ≡ sums_of s.job.program w.agents
  sums_at w sums x false is ends other saved = absurd (nothing w (none_of_it x is ends other) saved)
  sums_at w sums x true is ends same saved =
      let one : Some (as_world x) ≡ Some w = sym (one_of_it x is ends same) ∙ saved in
      sums_here x sums is ∙ subst (λ (o : Option World). IfSome o (λ v. sums_of s.job.program x.agents ≡ sums_of s.job.program v.agents)) one refl

  sums_of_last : (w : World) (sums : ℤ × ℤ) (last : Option Shown) (c : Bool) → last_shown shown ≡ last → is_end s tick ≡ c
      → saved_world s tick shown ≡ Some w → sums_after sums s tick shown ≡ sums_of s.job.program w.agents
  sums_of_last w sums None true is ends saved = absurd (nothing w (none_at_all is ends) saved)
  sums_of_last w sums (Some x) true is ends saved = sums_at w sums x (x.tick == tick) is ends refl saved
  sums_of_last w sums _ false is ends saved = absurd (nothing w (none_within ends) saved)

  -- the sums over what is shown where a world is saved are those over that world
  sums_saved : (w : World) (sums : ℤ × ℤ) → saved_world s tick shown ≡ Some w → sums_after sums s tick shown ≡ sums_of s.job.program w.agents
  sums_saved w sums saved = sums_of_last w sums (last_shown shown) (is_end s tick) refl refl saved

module _ (s : Setting) (up : s.job.first ≤ s.job.last) where
  abbrev row : List ℕ
  row = range_with_len s.job.first (s.job.last - s.job.first)

  -- the last end of a run is its last tick
  ends_are : ends s ≡ filter (is_end s) row ++ s.job.last ∷ []
  ends_are =
      let last : ℕ = s.job.last in
      let n : ℕ = last - s.job.first in
      let more : last + 1 - s.job.first ≡ suc n = omega (arith, up) in
      let there : s.job.first + n ≡ last = omega (arith, up) in
      ap (λ m. filter (is_end s) (range_with_len s.job.first m)) more
      ∙ ap (filter (is_end s)) (row_one n s.job.first ∙ ap (λ v. row ++ v ∷ []) there)
      ∙ filter-append (is_end s) row (last ∷ [])
      ∙ ap (λ c. filter (is_end s) row ++ cond c (last ∷ []) []) (last_ends s last refl)

  abbrev summed : ℤ × ℤ → Call → ℤ × ℤ
  summed sums c = sums_after sums s c.tick c.worlds

  -- what is summed up over all calls of a run are the sums of its last world
  sums_at_end : (w : World) (sums : ℤ × ℤ) → first_fault s.job ≡ None → end_of s.job ≡ Ok w → fold summed sums (calls s) ≡ sums_of s.job.program w.agents
  sums_at_end w sums no_fault is =
      let last : ℕ = s.job.last in
      let front : List ℕ = filter (is_end s) row in
      ap (λ f. fold summed sums (calls_to s f)) no_fault
      ∙ ap (λ xs. fold summed sums (map (call_at s) xs)) ends_are
      ∙ ap (fold summed sums) (map-append (call_at s) front (last ∷ []))
      ∙ fold-append summed sums (map (call_at s) front) (call_at s last ∷ [])
      ∙ sums_saved s last (call_at s last).worlds w (fold summed sums (map (call_at s) front)) (all_saved s last w (last_is_end s up) is)

-- ---- how a trial ends

-- the outcome of a trial that comes to its last tick, from the sums and the counts that it tells
abbrev pub told : TrialCommand → ℤ × ℤ → Counts → Outcome
told trial sums counts = record {
  status = Done;
  out = trial_line trial.count trial.ticks sums;
  err = told_counts trial.manner.stats counts;
  saved = [];
}

module _ (trial : TrialCommand) (s : Setting) where
  ended_in : (r : Result World Fault) (up : s.job.first ≤ s.job.last) (sums start : ℤ × ℤ) (counts : Counts) → end_of s.job ≡ r → first_fault s.job ≡ None
      → sums ≡ fold (summed s up) start (calls s) → told_counts trial.manner.stats counts ≡ stats_of trial.manner.stats s
      → told trial sums counts ≡ trial_end trial s r
  ended_in (Ok w) up sums start counts is no_fault behind same =
      ap₂ (λ a b. record { status = Done; out = trial_line trial.count trial.ticks a; err = b; saved = [] }) (behind ∙ sums_at_end s up w start no_fault is) same
  ended_in (Err f) up sums start counts is no_fault behind same =
      let gone : Some f ≡ None = sym (ap result_err is) ∙ no_fault in absurd (cc (gone))

  -- a trial whose run has a last world tells the sums and the counts of it
  pub trial_told : (sums start : ℤ × ℤ) (counts : Counts) → s.job.first ≤ s.job.last → first_fault s.job ≡ None
      → sums ≡ fold (λ x c. sums_after x s c.tick c.worlds) start (calls s)
      → counts.border ≡ count_border s → counts.effects ≡ count_effects s → counts.moved ≡ count_moved s → counts.handed ≡ count_handed s
      → told trial sums counts ≡ trial_end trial s (end_of s.job)
  trial_told sums start counts up no_fault behind border effects moved handed =
      ended_in (end_of s.job) up sums start counts refl no_fault behind (counts_told trial.manner.stats s counts border effects moved handed)

fault_is : (f : Fault) (r : Result World Fault) → result_err r ≡ Some f → r ≡ Err f
fault_is f (Ok w) is = absurd (cc (is))
fault_is f (Err g) is = subst (λ (o : Option Fault). IfSome o (λ h. ◌≡◌ {A = Result World Fault} (Err g) (Err h))) is refl

-- a trial whose run ends in a fault
pub trial_faulted : (trial : TrialCommand) (s : Setting) (f : Fault) → first_fault s.job ≡ Some f → trial_end trial s (Err f) ≡ trial_end trial s (end_of s.job)
trial_faulted trial s f is = ap (trial_end trial s) (sym (fault_is f (end_of s.job) is))

-- what a run came to that went to its last tick, and one that ended in a fault
pub went_on : {P : Type 0} (of : publisher.Ghosts P) (s : Setting) (opening now : P) (came : Result Counts CrewFault) (counts : Counts)
    → came ≡ Ok counts → CameTo of s opening now came → HasRun of s opening now counts
went_on of s opening now came counts is run = subst (λ (r : Result Counts CrewFault). CameBy of s opening now r) is run.came

pub stopped_by : {P : Type 0} (of : publisher.Ghosts P) (s : Setting) (opening now : P) (came : Result Counts CrewFault) (f : Fault)
    → came ≡ Err (crew.Fault f) → CameTo of s opening now came → HasFaulted of s opening now f
stopped_by of s opening now came f is run = subst (λ (r : Result Counts CrewFault). CameBy of s opening now r) is run.came

-- what a run came to, by another name of its publisher
pub came_as : {P : Type 0} (of : publisher.Ghosts P) (s : Setting) (opening now then : P) (came : Result Counts CrewFault) → then ≡ now → CameTo of s opening now came → CameTo of s opening then came
came_as of s opening now then came is run = subst (λ p. CameTo of s opening p came) (sym is) run

-- a trial that was carried out for its outcome, beside a shelf that was left as it was, is a task that was
pub trial_run : {O : Type 0} (of_sink : sink_trait.Ghosts O) (task : Task) (trial : CodeTrial) (shelf : ShelfCall) (out out_after : O) (r : Result Answer Stopped)
    → task.trial ≡ Some trial → shelf.held_after ≡ shelf.held → shelf.faults_after ≡ shelf.faults_before
    → IsWritten (λ x. x ≡ trial_end (said_trial trial) task.setting (end_of task.setting.job)) (sink_call of_sink out out_after) (message_in r) (status_in r)
    → is_plain_work (status_in r) ≡ true → CountsWrites (sink_call of_sink out out_after) (status_in r)
    → (has_run (status_in r) ≡ true → of_sink.clean out_after ≡ true) → IsRunOf of_sink task shelf out out_after r
trial_run of_sink task trial shelf out out_after r is held faults written plain writes clean =
    let all : IsWritten (λ x. x ≡ outcome_of task) (sink_call of_sink out out_after) (message_in r) (status_in r) =
    subst (λ (t : Option CodeTrial). IsWritten (λ x. x ≡ outcome_by t task) (sink_call of_sink out out_after) (message_in r) (status_in r)) (sym is) written in
    record {
      carried_out = λ files told. all files shelf told held;
      written = λ bare. all;
      plain = λ bare. plain;
      work = plain_works _ plain;
      counts = plain_counts shelf _ plain faults;
      stops = plain_stops shelf _ plain;
      writes = writes;
      clean = clean;
    }

-- a task that was given up before its parts were run
pub unflushed_run : {O : Type 0} (of_sink : sink_trait.Ghosts O) (task : Task) (shelf : ShelfCall) (out out_after : O) → shelf.held_after ≡ shelf.held → shelf.faults_after ≡ shelf.faults_before
    → of_sink.written out_after ≡ of_sink.written out → Rose (of_sink.faults out) (of_sink.faults out_after) → IsRunOf of_sink task shelf out out_after (Err stopped.WriteFault)
unflushed_run of_sink task shelf out out_after held faults same rose =
    let all : IsWritten (λ x. x ≡ outcome_of task) (sink_call of_sink out out_after) write_fault_message WriteFault = unflushed_written task (sink_call of_sink out out_after) same rose in
    record {
      carried_out = λ files told. all files shelf told held;
      written = λ bare. all;
      plain = λ bare. refl;
      work = refl;
      counts = plain_counts shelf WriteFault refl faults;
      stops = plain_stops shelf WriteFault refl;
      writes = λ is. rose;
      clean = λ ran. absurd (cc);
    }
