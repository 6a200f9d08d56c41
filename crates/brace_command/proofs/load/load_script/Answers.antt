use Rattle.std.proofs.Common.{refl}
use Rattle.std.proofs.lemmas.Result.{err_from_is_err_and}
use Rattle.brace_command.specs.Outcome.{IsJudged, JudgedOf, source_of, unloaded}
use Rattle.brace_command.specs.Scripts.{Refuses}
use Rattle.brace_command.proofs.AnswerLemmas.{unloaded_as, script_loaded, script_unloads}
use Rattle.brace_command.proofs.load.load_script.Goals as goal

pub returns-in_err-source-clause-loads : goal.returns-in_err-source-clause-loads
returns-in_err-source-clause-loads g c =
    let p = err_from_is_err_and c.from_residual.result c.from_residual.ensures.1 in
    rw (p.1, p.2) (unloaded_as _ (λ files. JudgedOf files c.args.name.now) c.args.name.now _ _ (λ files r e. unloaded r e) c.in_err-source.ensures.loads)

pub returns-in-Ok-clause-loads : goal.returns-in-Ok-clause-loads
returns-in-Ok-clause-loads g c =
    script_loaded IsJudged Refuses (λ files. source_of files c.args.name.now) c.args.name.now c.in_ok-source.source.items _ _ c.in_ok-source.ensures.loads
    (record { source = refl; means = rw c.as_slice.ensures.value at c.in-Ok.ensures.read })

pub returns-in-Err-clause-loads : goal.returns-in-Err-clause-loads
returns-in-Err-clause-loads g c =
    script_unloads IsJudged Refuses (λ files. source_of files c.args.name.now) c.args.name.now c.in_ok-source.source.items _ _ _ c.in_ok-source.ensures.loads.counts c.in_ok-source.ensures.loads.found
    (rw c.as_slice.ensures.value at c.in-Err.ensures.refused) (rw c.as_slice-in-Err.ensures.value at c.refuse_script.ensures)
