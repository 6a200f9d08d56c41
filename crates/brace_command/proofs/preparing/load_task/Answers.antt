use Rattle.std.proofs.Common.{◌∙◌, ◌≡◌, ◌≤◌, refl, sym, ap, subst, arith}
use Rattle.std.specs.Prelude.{[], unwrap_or, Ok, Err}
use Rattle.std.proofs.lemmas.Result.{err_from_is_err_and}
use Rattle.brace_pieces.specs.declared.setting.Setting.{Setting}
use Rattle.brace_pieces.specs.Settings.{LawfulSetting}
use Rattle.brace_save.specs.Lines.{moment_of}
use Rattle.brace_watch.specs.Watches.{AreWatches}
use Rattle.brace_command.specs.Commands.{Run, is_anew, start_file}
use Rattle.brace_command.specs.Outcome.{ProgramOf, BeginsAt, plan_of, watches_of, saves_of, ran, reads_script, reads_start}
use Rattle.brace_command.specs.Words.{said_run}
use Rattle.brace_command.proofs.AnswerLemmas.{stop_before, stopped_before, unloaded_later, start_refused, plan_refused, plan_read, watch_refused, watch_read, none_of, run_ended, run_is_lawful}
use Rattle.brace_command.proofs.preparing.load_task.Goals as goal

pub returns-in_err-program-clause-ready : goal.returns-in_err-program-clause-ready
returns-in_err-program-clause-ready g c =
    let run = said_run c.args.run.now in
    let p = err_from_is_err_and c.from_residual.result c.from_residual.ensures.1 in
    rw (p.1, p.2) (stopped_before g.S.Shelf (Run run) _ _ (λ files. ProgramOf files run.script) run.script _
    (λ files told. reads_script _ _ refl) (λ files r told is. record { found = Err r; is = is; follows = refl })
    c.in_err-program.ensures.held c.in_err-program.ensures.loads)

pub returns-in_err-point-clause-ready : goal.returns-in_err-point-clause-ready
returns-in_err-point-clause-ready g c =
    let run = said_run c.args.run.now in
    let program = c.in_ok-program.program in
    let p = err_from_is_err_and c.from_residual-in_err-point.result c.from_residual-in_err-point.ensures.1 in
    rw (p.1, p.2) (stopped_before g.S.Shelf (Run run) _ _ (λ files. BeginsAt files program run.start) (start_file run.start) _
    (λ files told. reads_start run program (c.in_ok-program.ensures.loads.found files told))
    (λ files r told is. record { found = Ok program; is = c.in_ok-program.ensures.loads.found files told; follows = start_refused files run program r is })
    (c.in_err-point.ensures.held ∙ c.in_ok-program.ensures.held)
    (unloaded_later g.S.Shelf _ (start_file run.start) _ _ _ _ c.in_ok-program.ensures.held c.in_ok-program.ensures.loads.counts c.in_err-point.ensures.loads))

pub returns-in_err-cuts-clause-ready : goal.returns-in_err-cuts-clause-ready
returns-in_err-cuts-clause-ready g c =
    let run = said_run c.args.run.now in
    let program = c.in_ok-program.program in
    let moment = moment_of c.in_ok-point.point in
    let held = c.in_ok-point.ensures.held ∙ c.in_ok-program.ensures.held in
    let faults = c.in_ok-point.ensures.loads.counts ∙ c.in_ok-program.ensures.loads.counts in
    let p = err_from_is_err_and c.from_residual-in_err-cuts.result c.from_residual-in_err-cuts.ensures.1 in
    rw (p.1, p.2) (stop_before g.S.Shelf (Run run) _ _ (λ files found. plan_of files run.manner.epoch run.cuts ≡ found) (unwrap_or run.cuts []) _
    (λ files told failed. plan_read files run program moment (c.in_ok-program.ensures.loads.found files told)
    (c.in_ok-point.ensures.loads.found files (c.in_ok-program.ensures.held ∙ told)) (λ none. c.in_err-cuts.ensures.unread (none_of _ _ none) failed))
    (λ files r told is. record {
      found = Ok program;
      is = c.in_ok-program.ensures.loads.found files told;
      follows = plan_refused files run program moment r (c.in_ok-point.ensures.loads.found files (c.in_ok-program.ensures.held ∙ told)) is;
    })
    (c.in_err-cuts.ensures.held ∙ held)
    (unloaded_later g.S.Shelf _ (unwrap_or run.cuts []) _ _ _ _ held faults c.in_err-cuts.ensures.loads))

pub returns-in_err-watches-clause-ready : goal.returns-in_err-watches-clause-ready
returns-in_err-watches-clause-ready g c =
    let run = said_run c.args.run.now in
    let program = c.in_ok-program.program in
    let moment = moment_of c.in_ok-point.point in
    let plan = c.in_ok-cuts.cuts in
    let before = c.in_ok-point.ensures.held ∙ c.in_ok-program.ensures.held in
    let held = c.in_ok-cuts.ensures.held ∙ before in
    let faults = c.in_ok-cuts.ensures.loads.counts ∙ c.in_ok-point.ensures.loads.counts ∙ c.in_ok-program.ensures.loads.counts in
    let p = err_from_is_err_and c.from_residual-in_err-watches.result c.from_residual-in_err-watches.ensures.1 in
    rw (p.1, p.2) (stop_before g.S.Shelf (Run run) _ _ (λ files found. watches_of files program run.watch ≡ found) (unwrap_or run.watch []) _
    (λ files told failed. watch_read files run program moment plan (c.in_ok-program.ensures.loads.found files told)
    (c.in_ok-point.ensures.loads.found files (c.in_ok-program.ensures.held ∙ told)) (c.in_ok-cuts.ensures.loads.found files (before ∙ told))
    (λ none. c.in_err-watches.ensures.unread (none_of _ _ none) failed))
    (λ files r told is. record {
      found = Ok program;
      is = c.in_ok-program.ensures.loads.found files told;
      follows = watch_refused files run program moment plan r (c.in_ok-point.ensures.loads.found files (c.in_ok-program.ensures.held ∙ told))
          (c.in_ok-cuts.ensures.loads.found files (before ∙ told)) is;
    })
    (c.in_err-watches.ensures.held ∙ held)
    (unloaded_later g.S.Shelf _ (unwrap_or run.watch []) _ _ _ _ held faults c.in_err-watches.ensures.loads))

pub returns-clause-ready : goal.returns-clause-ready
returns-clause-ready g c =
    let run = said_run c.args.run.now in
    let program = c.in_ok-program.program in
    let moment = moment_of c.in_ok-point.point in
    record {
      lawful =
          subst LawfulSetting (sym c.task_of.ensures.setting)
          (run_is_lawful c.args.run.now program moment c.in_ok-cuts.cuts c.requires.range c.in_ok-program.ensures.lawful
          c.in_ok-point.ensures.lawful c.in_ok-point.ensures.numbered c.in_ok-point.ensures.range c.in_ok-cuts.ensures.lawful);
      is_command = λ none. absurd cc;
      outcome = λ files told. record {
        found = Ok program;
        is = c.in_ok-program.ensures.loads.found files told;
        follows = run_ended files run program moment c.in_ok-cuts.cuts c.in_ok-watches.watches.items _ (c.in_ok-point.ensures.loads.found files (c.in_ok-program.ensures.held ∙ told))
            (c.in_ok-cuts.ensures.loads.found files (c.in_ok-point.ensures.held ∙ c.in_ok-program.ensures.held ∙ told))
            (c.in_ok-watches.ensures.loads.found files (c.in_ok-cuts.ensures.held ∙ c.in_ok-point.ensures.held ∙ c.in_ok-program.ensures.held ∙ told))
            (c.task_of.ensures.outcome ∙ ap (ran run.manner.stats (saves_of run c.in_ok-watches.watches.items) (is_anew run.start)) c.task_of.ensures.setting);
      };
      watched =
          subst (λ (s : Setting). AreWatches s.job.program c.task_of.result.watches.items) (sym c.task_of.ensures.setting)
          (subst (AreWatches program) (sym c.task_of.ensures.watches) c.in_ok-watches.ensures.asked);
      saves = c.task_of.ensures.saves;
      link = c.task_of.ensures.link c.requires.range;
      unsaved = c.in_ok-watches.ensures.held ∙ c.in_ok-cuts.ensures.held ∙ c.in_ok-point.ensures.held ∙ c.in_ok-program.ensures.held;
      counts = c.in_ok-watches.ensures.loads.counts ∙ c.in_ok-cuts.ensures.loads.counts ∙ c.in_ok-point.ensures.loads.counts ∙ c.in_ok-program.ensures.loads.counts;
    }

pub returns-clause-begins : goal.returns-clause-begins
returns-clause-begins g c fresh =
    let zero = c.in_ok-point.ensures.first (sym c.task_of.ensures.fresh ∙ fresh) in
    subst (λ (s : Setting). s.job.first ≤ s.job.last) (sym c.task_of.ensures.setting) (omega (arith, zero))
