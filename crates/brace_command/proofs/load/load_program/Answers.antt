use Rattle.std.proofs.lemmas.Result.{err_from_is_err_and}
use Rattle.brace_command.specs.Outcome.{JudgedOf, ProgramOf}
use Rattle.brace_command.specs.Prepared.{judged}
use Rattle.brace_command.proofs.AnswerLemmas.{unloaded_as}
use Rattle.brace_command.proofs.JudgedLemmas.{program_loaded, program_refused}
use Rattle.brace_command.proofs.load.load_program.Goals as goal

pub returns-in_err-script-clause-loads : goal.returns-in_err-script-clause-loads
returns-in_err-script-clause-loads g c =
    let name = c.args.name.now in
    let p = err_from_is_err_and c.from_residual.result c.from_residual.ensures.1 in
    rw (p.1, p.2) (unloaded_as (λ files. JudgedOf files name) (λ files. ProgramOf files name) name _ _ (λ files r is. program_refused files name r is) c.in_err-script.ensures.loads)

pub returns-clause-loads : goal.returns-clause-loads
returns-clause-loads g c = record {
  found = λ files told. program_loaded files c.args.name.now (judged c.in_ok-script.script) (c.in_ok-script.ensures.loads.found files told);
  counts = c.in_ok-script.ensures.loads.counts;
}
