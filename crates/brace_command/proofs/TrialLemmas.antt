-- A trial: its cut plan is lawful; and what is written of a task.
use Rattle.std.proofs.Common.{ap₂, ◌≡◌, ◌∙◌, refl, sym, ap, subst, ℕ, zero, suc, ◌+◌, ◌*◌, ◌-◌, ◌<◌, ◌≤◌, ◌^◌, List, [], ◌∷◌, ◌++◌, map, true, Option, Some, None, Result, Ok, Err, ℤ, pos, ◌+ℤ◌, arith}
use Rattle.std.specs.Prelude.{◌%◌, IfSome, IsTrue, slice_get}
use Rattle.std.specs.List.{range_with_len}
use Rattle.std.specs.List.Sorted.{IsStrictlyIncreasing}
use Rattle.std.proofs.Math.Nat.{mul-mod_left}
use Rattle.std.proofs.lemmas.Bool.Decides.{nat_tests}
use Rattle.std.proofs.lemmas.List.{map-append}
use Rattle.brace_io.specs.Counts.{Rose}
use Rattle.brace_cuts.specs.CutPlans.{IsPlan, IsPlanLine, are_alike}
use Rattle.brace_cuts.specs.Space.{LawfulCuts}
use Rattle.brace_cuts.specs.declared.plan.CutLine.{CutLine}
use Rattle.brace_model.specs.declared.fault.Fault.{Fault}
use Rattle.brace_model.specs.World.{World}
use Rattle.brace_model.specs.Run.{end_of, first_fault}
use Rattle.brace_pieces.specs.declared.setting.Setting.{Setting}
use Rattle.brace_pieces.proofs.EpochLemmas.{row_one}
use Rattle.brace_command.specs.declared.command.TrialCommand.{TrialCommand as CodeTrial}
use Rattle.brace_command.specs.declared.task.Task.{Task}
use Rattle.brace_command.specs.declared.status.Status.{Status}
use Rattle.brace_command.specs.declared.status.Status.TheVariants.{WriteFault}
use Rattle.brace_command.specs.Answer.{SinkCall}
use Rattle.brace_command.specs.Commands.{TrialCommand}
use Rattle.brace_command.specs.Messages.{write_fault_message}
use Rattle.brace_command.specs.Outcome.{Outcome, trial_end}
use Rattle.brace_command.specs.Trials.{strips, along_x, trial_plan}
use Rattle.brace_command.specs.Status.{has_run}
use Rattle.brace_command.specs.Settled.{outcome_of, outcome_by, IsWritten}
use Rattle.brace_command.specs.Words.{said_trial}
use Rattle.brace_command.proofs.AnswerLemmas.{unwritten_written}
use Rattle.brace_command.proofs.NoneLemmas.{piece_none, runs}

-- ---- the cut plan

-- one strip more
pub strip_more : (further n : ℕ) (xs more : List ℤ) (x : ℤ) → 1 ≤ n → xs ≡ map (λ k. pos (k * 125000000 + further)) (range_with_len 1 (n - 1))
    → more ≡ xs ++ x ∷ [] → x ≡ pos (n * 125000000 + further) → more ≡ map (λ k. pos (k * 125000000 + further)) (range_with_len 1 (n + 1 - 1))
strip_more further n xs more x some are is at =
    let cut : ℕ → ℤ = λ k. pos (k * 125000000 + further) in
    let one : n + 1 - 1 ≡ suc (n - 1) = omega (arith, some) in
    let there : 1 + (n - 1) ≡ n = omega (arith, some) in
    let row : range_with_len 1 (n + 1 - 1) ≡ range_with_len 1 (n - 1) ++ n ∷ [] =
    ap (range_with_len 1) one ∙ row_one (n - 1) 1 ∙ ap (λ v. range_with_len 1 (n - 1) ++ v ∷ []) there in
    is ∙ ap₂ (λ (l : List ℤ) (y : ℤ). l ++ y ∷ []) are at
    ∙ sym (ap (map cut) row ∙ map-append cut (range_with_len 1 (n - 1)) (n ∷ []))

-- the ticks of a plan's lines rise
ticks_rise : (epoch : ℕ) → 1 ≤ epoch → IsStrictlyIncreasing (0 ∷ epoch ∷ 2 * epoch ∷ [])
ticks_rise epoch some zero h = let e : 0 < epoch = omega (arith, some) in e
ticks_rise epoch some (suc zero) h = let e : epoch < 2 * epoch = omega (arith, some) in e
ticks_rise epoch some (suc (suc k)) h = absurd (omega (arith, h))

-- the strips, and the strips further along, are lawful cuts
strips_lawful : LawfulCuts (record { xs = strips; ys = [] })
strips_lawful = record { xs_rise = refl; ys_rise = refl; xs_can_cut = refl; ys_can_cut = refl; parts_are_few = let e : 8 ≤ 64 = omega arith in e }

further_lawful : LawfulCuts (record { xs = map (λ x. x +ℤ pos 5000000) strips; ys = [] })
further_lawful = record { xs_rise = refl; ys_rise = refl; xs_can_cut = refl; ys_can_cut = refl; parts_are_few = let e : 8 ≤ 64 = omega arith in e }

-- a line of a tick at which an epoch ends
line_lawful : (epoch tick : ℕ) (xs : List ℤ) → tick % epoch ≡ 0 → tick ≤ 2 ^ 32 → IsTrue (are_alike (along_x 0 strips) (along_x tick xs))
    → LawfulCuts (record { xs = xs; ys = [] }) → IsPlanLine epoch (along_x 0 strips) (along_x tick xs)
line_lawful epoch tick xs ends low alike cuts = record {
  tick_ends_an_epoch = ends;
  tick_is_low = grind (arith, nat_tests, low);
  is_like_the_first = alike;
  cuts_are_lawful = cuts;
}

-- a tick after one epoch, and after two
once : (epoch : ℕ) → epoch % epoch ≡ 0
once epoch = let one : epoch ≡ 1 * epoch = omega arith in ap (λ n. n % epoch) one ∙ mul-mod_left 1 epoch

twice : (epoch : ℕ) → (2 * epoch) % epoch ≡ 0
twice epoch = mul-mod_left 2 epoch

none : (epoch : ℕ) → 0 % epoch ≡ 0
none epoch = let zero_is : 0 ≡ 0 * epoch = omega arith in ap (λ n. n % epoch) zero_is ∙ mul-mod_left 0 epoch

each_line : (epoch : ℕ) → epoch ≤ 16 → (n : ℕ) → IfSome (slice_get (trial_plan epoch).lines n) (IsPlanLine epoch (along_x 0 strips))
each_line epoch few zero = line_lawful epoch 0 strips (none epoch) (omega arith) refl strips_lawful
each_line epoch few (suc zero) = line_lawful epoch epoch (map (λ x. x +ℤ pos 5000000) strips) (once epoch) (omega (arith, few)) refl further_lawful
each_line epoch few (suc (suc zero)) = line_lawful epoch (2 * epoch) strips (twice epoch) (omega (arith, few)) refl strips_lawful
each_line epoch few (suc (suc (suc n))) = tt

-- the cut plan of a trial is lawful
pub plan_lawful : (epoch : ℕ) → 1 ≤ epoch → epoch ≤ 16 → IsPlan epoch (trial_plan epoch)
plan_lawful epoch some few = record {
  in_order = record { begins = refl; goes_on = ticks_rise epoch some };
  lines_are_lawful = λ n first line is_first is_line.
      subst (λ (o : Option CutLine). IfSome o (λ f. IsPlanLine epoch f line)) is_first
      (subst (λ (o : Option CutLine). IfSome o (IsPlanLine epoch (along_x 0 strips))) is_line (each_line epoch few n));
}

-- so is one of these lines
pub lines_lawful : (epoch : ℕ) (lines : List CutLine) → 1 ≤ epoch → epoch ≤ 16 → lines ≡ (trial_plan epoch).lines → IsPlan epoch (record { lines = lines })
lines_lawful epoch lines some few are = subst (λ (ls : List CutLine). IsPlan epoch (record { lines = ls })) (sym are) (plan_lawful epoch some few)

-- ---- what is written

-- what is written for an outcome is written for one that is the same
pub written_for : (o p : Outcome) (out : SinkCall) (message : List ℕ) (status : Status) → o ≡ p
    → IsWritten (λ x. x ≡ o) out message status → IsWritten (λ x. x ≡ p) out message status
written_for o p out message status e is = subst (λ (q : Outcome). IsWritten (λ x. x ≡ q) out message status) e is

-- ---- a sink that was not flushed

-- a trial reaches its end or its fault
trial_runs : (trial : TrialCommand) (s : Setting) (r : Result World Fault) → has_run (trial_end trial s r).status ≡ true
trial_runs trial s (Ok w) = refl
trial_runs trial s (Err f) = refl

-- and so does a task
task_runs : (trial : Option CodeTrial) (task : Task) → has_run (outcome_by trial task).status ≡ true
task_runs None task = runs (first_fault task.setting.job)
task_runs (Some trial) task = trial_runs (said_trial trial) task.setting (end_of task.setting.job)

-- a task of which nothing was written
pub unflushed_written : (task : Task) (out : SinkCall) → out.after ≡ out.before → Rose out.faults_before out.faults_after → IsWritten (λ x. x ≡ outcome_of task) out write_fault_message WriteFault
unflushed_written task out same rose = unwritten_written (outcome_of task) out (task_runs task.trial task) rose (0, (omega arith, same ∙ piece_none out.before))
