-- A run that begins behind its last tick comes to nothing.
use Rattle.std.proofs.Common.{◌≡◌, ◌∙◌, refl, sym, ap, ℕ, ◌+◌, ◌-◌, ◌<◌, List, [], Bool, true, false, None, map, filter, flat_map, arith, Option, Some}
use Rattle.std.specs.Prelude.{sum, if◌then◌else◌}
use Rattle.std.specs.List.{range_with_len}
use Rattle.std.specs.Result.{result_err}
use Rattle.brace_model.specs.Run.{world_after, first_fault}
use Rattle.brace_model.specs.Published.{text_of_ticks, published}
use Rattle.brace_pieces.specs.declared.counts.Counts.{Counts}
use Rattle.brace_pieces.specs.declared.setting.Setting.{Setting}
use Rattle.brace_pieces.specs.Counts.{over_ticks}
use Rattle.brace_pieces.specs.Settings.{is_end}
use Rattle.brace_command.specs.declared.status.Status.TheVariants.{Done}
use Rattle.brace_command.specs.Outcome.{Outcome, end_status, end_message, ran}
use Rattle.brace_command.specs.Savings.{Saves, savings_at, savings}
use Rattle.brace_command.specs.Settled.{told_counts}
use Rattle.brace_command.proofs.AnswerGives.{counts_told}
use Rattle.brace_command.proofs.RestartLemmas.{silent}
use Rattle.std.proofs.lemmas.List.{append-nil}
use Rattle.brace_io.specs.Sinks.{with_piece}
use Rattle.brace_model.specs.declared.fault.Fault.{Fault as RunFault}
use Rattle.brace_command.specs.Status.{has_run}

-- nothing more is written
pub piece_none : (written : Option (List ℕ)) → written ≡ with_piece written []
piece_none None = refl
piece_none (Some bytes) = ap Some (sym (append-nil bytes))

-- a run reaches its last tick or its fault
pub runs : (o : Option RunFault) → has_run (end_status o) ≡ true
runs None = refl
runs (Some f) = refl

-- nothing was given
abbrev pub none_given : Counts
none_given = record { border = 0; effects = 0; moved = 0; handed = 0 }

-- what a run comes to that begins behind its last tick
abbrev pub nothing : Bool → Outcome
nothing stats = record { status = Done; out = []; err = told_counts stats none_given; saved = [] }

module _ (s : Setting) (behind : s.job.last < s.job.first) where
  gap : s.job.last - s.job.first ≡ 0
  gap = omega (arith, behind)

  no_ticks : (count : ℕ → ℕ) → 0 ≡ over_ticks s count
  no_ticks count = sym (ap (λ n. sum (map count (range_with_len s.job.first n))) gap)

  no_effects : (invert : Bool) (n : ℕ) → 0 ≡ n → 0 ≡ (if invert then 0 else n)
  no_effects true n e = refl
  no_effects false n e = e

  no_text : published s.job false ≡ []
  no_text = ap (λ n. text_of_ticks s.job false (1 + n)) gap ∙ silent s.job

  no_fault : first_fault s.job ≡ None
  unfolding world_after
  no_fault = ap (λ n. result_err (world_after s.job n)) gap

  no_files : (saves : Saves) → savings saves false s ≡ []
  no_files saves =
      let none : s.job.last + 1 - s.job.first ≡ 0 = omega (arith, behind) in
      ap (λ n. flat_map (λ end. savings_at saves false s end (world_after s.job (end - s.job.first))) (filter (is_end s) (range_with_len s.job.first n))) none

  -- it ends at once, with nothing published and nothing saved
  pub ran_none : (stats : Bool) (saves : Saves) → nothing stats ≡ ran stats saves false s
  ran_none stats saves =
      let counts = counts_told stats s none_given (no_ticks _) (no_effects s.invert _ (no_ticks _)) (no_ticks _) (no_ticks _) in
      ap (λ (err : List ℕ). record { status = Done; out = []; err = err; saved = [] }) counts
      ∙ ap (λ found. record { status = end_status found; out = []; err = end_message stats s found; saved = [] }) (sym no_fault)
      ∙ ap (λ (text : List ℕ). record { status = end_status (first_fault s.job); out = text; err = end_message stats s (first_fault s.job); saved = [] }) (sym no_text)
      ∙ ap (λ files. record { status = end_status (first_fault s.job); out = published s.job false; err = end_message stats s (first_fault s.job); saved = files }) (sym (no_files saves))
