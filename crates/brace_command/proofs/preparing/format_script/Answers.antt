use Rattle.std.proofs.Common.{◌∙◌, refl, ap}
use Rattle.std.specs.Prelude.{Some, Ok, Err}
use Rattle.std.proofs.lemmas.Result.{err_from_is_err_and}
use Rattle.brace_command.specs.Commands.{Format}
use Rattle.brace_command.specs.Outcome.{TreeOf, shown, reads_script}
use Rattle.brace_command.proofs.AnswerLemmas.{stopped_before, stopped_serves, memory_unloads, plain_work_serves}
use Rattle.brace_command.proofs.preparing.format_script.Goals as goal

pub returns-in_err-tree-clause-served : goal.returns-in_err-tree-clause-served
returns-in_err-tree-clause-served g c =
    let p = err_from_is_err_and c.from_residual.result c.from_residual.ensures.1 in
    rw (p.1, p.2) (stopped_serves g.S.Shelf g.O.Sink (Format c.args.name.now) _ _ _ _ (stopped_before g.S.Shelf (Format c.args.name.now) _ _ (λ files. TreeOf files c.args.name.now) c.args.name.now _
    (λ files told. reads_script _ _ refl) (λ files r told is. record { found = Err r; is = is; follows = refl })
    c.in_err-tree.ensures.held c.in_err-tree.ensures.loads))

pub returns-in_err-text-clause-served : goal.returns-in_err-text-clause-served
returns-in_err-text-clause-served g c =
    let p = err_from_is_err_and c.from_residual-in_err-text.result c.from_residual-in_err-text.ensures.1 in
    rw (p.1, p.2) (stopped_serves g.S.Shelf g.O.Sink (Format c.args.name.now) _ _ _ _ (stopped_before g.S.Shelf (Format c.args.name.now) _ _ (λ files. TreeOf files c.args.name.now) c.args.name.now _
    (λ files told. reads_script _ _ refl) (λ files r told is. record { found = Err r; is = is; follows = refl })
    c.in_ok-tree.ensures.held (memory_unloads _ _ _)))

pub returns-clause-served : goal.returns-clause-served
returns-clause-served g c =
    plain_work_serves g.S.Shelf g.O.Sink (Some (Format c.args.name.now)) _ _ _ _ _ _ (λ none. absurd cc) c.in_ok-tree.ensures.held c.in_ok-tree.ensures.loads.counts
    (λ files x told e. record { found = Ok c.in_ok-tree.tree; is = c.in_ok-tree.ensures.loads.found files told; follows = e ∙ ap shown (c.as_slice.ensures.value ∙ c.in_ok-text.ensures.text) })
    c.write_text.ensures.written c.write_text.ensures.work c.write_text.ensures.writes c.write_text.ensures.clean
