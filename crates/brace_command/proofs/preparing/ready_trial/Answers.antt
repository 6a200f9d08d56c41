use Rattle.std.proofs.Common.{◌≤◌, refl, sym, ap, subst, arith}
use Rattle.std.specs.Prelude.{codes, Some, Ok}
use Rattle.std.proofs.lemmas.Result.{err_from_is_err_and}
use Rattle.brace_model.specs.Run.{end_of}
use Rattle.brace_pieces.specs.declared.setting.Setting.{Setting}
use Rattle.brace_command.specs.Answer.{shelf_call}
use Rattle.brace_command.specs.Outcome.{trial_end}
use Rattle.brace_command.specs.Words.{said_trial}
use Rattle.brace_command.proofs.AnswerLemmas.{trial_stopped_before, memory_unloads}
use Rattle.brace_command.proofs.WatchLemmas.{none_watched}
use Rattle.brace_command.proofs.preparing.ready_trial.Goals as goal

pub returns-in_err-program-clause-ready : goal.returns-in_err-program-clause-ready
returns-in_err-program-clause-ready g c =
    let p = err_from_is_err_and c.from_residual.result c.from_residual.ensures.1 in
    rw (p.1, p.2) (trial_stopped_before g.S.Shelf (said_trial c.args.trial.now) c.args.shelf.now _ c.in_err-program.ensures.unread
    (c.in_err-program.ensures.loads (shelf_call g.S.Shelf c.args.shelf.now c.args.shelf.now) refl))

pub returns-in_err-setting-clause-ready : goal.returns-in_err-setting-clause-ready
returns-in_err-setting-clause-ready g c =
    let p = err_from_is_err_and c.from_residual-in_err-setting.result c.from_residual-in_err-setting.ensures.1 in
    rw (p.1, p.2) (trial_stopped_before g.S.Shelf (said_trial c.args.trial.now) c.args.shelf.now _ (λ e. absurd cc) (memory_unloads _ (codes "trial") _))

pub returns-clause-ready : goal.returns-clause-ready
returns-clause-ready g c =
    let trial = said_trial c.args.trial.now in
    let setting = c.in_ok-setting.ensures.setting in
    record {
      lawful = c.in_ok-setting.ensures.lawful;
      is_command = λ none. absurd cc;
      outcome = λ files told. record {
        found = Ok c.in_ok-program.program;
        is = (c.in_ok-program.ensures.loads (record (shelf_call g.S.Shelf c.args.shelf.now c.args.shelf.now) { held = Some files }) refl).found files refl;
        follows = ap (λ (s : Setting). trial_end trial s (end_of s.job)) setting;
      };
      watched = none_watched _ _ c.new.ensures.items;
      saves = refl;
      link = tt;
      unsaved = refl;
      counts = refl;
    }

pub returns-clause-begins : goal.returns-clause-begins
returns-clause-begins g c = subst (λ (s : Setting). s.job.first ≤ s.job.last) (sym c.in_ok-setting.ensures.setting) (omega arith)
