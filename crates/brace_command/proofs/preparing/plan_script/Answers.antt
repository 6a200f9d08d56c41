use Rattle.std.proofs.Common.{◌∙◌, refl, ap}
use Rattle.std.specs.Prelude.{Some, Ok, Err, List, ℕ}
use Rattle.std.proofs.lemmas.Result.{err_from_is_err_and}
use Rattle.brace_command.specs.Commands.{Planning}
use Rattle.brace_command.specs.Outcome.{JudgedOf, shown, reads_script}
use Rattle.brace_command.specs.PlanText.{plan_text}
use Rattle.brace_command.specs.Prepared.{judged}
use Rattle.brace_command.proofs.AnswerLemmas.{stopped_before, stopped_serves, memory_unloads, plain_work_serves}
use Rattle.brace_command.proofs.preparing.plan_script.Goals as goal

pub returns-in_err-script-clause-served : goal.returns-in_err-script-clause-served
returns-in_err-script-clause-served g c =
    let p = err_from_is_err_and c.from_residual.result c.from_residual.ensures.1 in
    let command = Planning c.args.name.now c.args.invert in
    rw (p.1, p.2) (stopped_serves g.S.Shelf g.O.Sink command _ _ _ _ (stopped_before g.S.Shelf command _ _ (λ files. JudgedOf files c.args.name.now) c.args.name.now _
    (λ files told. reads_script _ _ refl) (λ files r told is. record { found = Err r; is = is; follows = refl })
    c.in_err-script.ensures.held c.in_err-script.ensures.loads))

pub returns-in_err-text-clause-served : goal.returns-in_err-text-clause-served
returns-in_err-text-clause-served g c =
    let p = err_from_is_err_and c.from_residual-in_err-text.result c.from_residual-in_err-text.ensures.1 in
    let command = Planning c.args.name.now c.args.invert in
    rw (p.1, p.2) (stopped_serves g.S.Shelf g.O.Sink command _ _ _ _ (stopped_before g.S.Shelf command _ _ (λ files. JudgedOf files c.args.name.now) c.args.name.now _
    (λ files told. reads_script _ _ refl) (λ files r told is. record { found = Err r; is = is; follows = refl })
    c.in_ok-script.ensures.held (memory_unloads _ _ _)))

pub returns-clause-served : goal.returns-clause-served
returns-clause-served g c =
    let script = c.in_ok-script.script in
    plain_work_serves g.S.Shelf g.O.Sink (Some (Planning c.args.name.now c.args.invert)) _ _ _ _ _ _ (λ none. absurd cc) c.in_ok-script.ensures.held c.in_ok-script.ensures.loads.counts
    (λ files x told e. record {
      found = Ok (judged script);
      is = c.in_ok-script.ensures.loads.found files told;
      follows = e ∙ ap shown (c.as_slice-2.ensures.value ∙ c.in_ok-text.ensures
          ∙ ap (λ (src : List ℕ). plan_text src script.program c.args.invert) c.as_slice.ensures.value);
    })
    c.write_text.ensures.written c.write_text.ensures.work c.write_text.ensures.writes c.write_text.ensures.clean
