use Rattle.std.proofs.Common.{refl}
use Rattle.std.specs.Prelude.{Some, Ok, Err}
use Rattle.std.proofs.lemmas.Result.{err_from_is_err_and}
use Rattle.brace_command.specs.Commands.{Check}
use Rattle.brace_command.specs.Outcome.{ProgramOf, reads_script}
use Rattle.brace_command.proofs.AnswerLemmas.{stopped_before, stopped_serves, plain_work_serves}
use Rattle.brace_command.proofs.preparing.check_script.Goals as goal

pub returns-in_err-_program-clause-served : goal.returns-in_err-_program-clause-served
returns-in_err-_program-clause-served g c =
    let p = err_from_is_err_and c.from_residual.result c.from_residual.ensures.1 in
    rw (p.1, p.2) (stopped_serves g.S.Shelf g.O.Sink (Check c.args.name.now) _ _ _ _ (stopped_before g.S.Shelf (Check c.args.name.now) _ _ (λ files. ProgramOf files c.args.name.now) c.args.name.now _
    (λ files told. reads_script _ _ refl) (λ files r told is. record { found = Err r; is = is; follows = refl })
    c.in_err-_program.ensures.held c.in_err-_program.ensures.loads))

pub returns-clause-served : goal.returns-clause-served
returns-clause-served g c =
    plain_work_serves g.S.Shelf g.O.Sink (Some (Check c.args.name.now)) _ _ _ _ _ _ (λ none. absurd cc) c.in_ok-_program.ensures.held c.in_ok-_program.ensures.loads.counts
    (λ files x told e. record { found = Ok c.in_ok-_program._program; is = c.in_ok-_program.ensures.loads.found files told; follows = e })
    c.write_text.ensures.written c.write_text.ensures.work c.write_text.ensures.writes c.write_text.ensures.clean
