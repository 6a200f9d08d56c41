use Rattle.std.proofs.lemmas.Result.{err_from_is_err_and}
use Rattle.brace_command.specs.Outcome.{TreeOf, source_of, unloaded}
use Rattle.brace_command.specs.Scripts.{IsTree, NoTree}
use Rattle.brace_command.proofs.AnswerLemmas.{unloaded_as, script_loaded, script_unloads}
use Rattle.brace_command.proofs.load.load_tree.Goals as goal

pub returns-in_err-src-clause-loads : goal.returns-in_err-src-clause-loads
returns-in_err-src-clause-loads g c =
    let p = err_from_is_err_and c.from_residual.result c.from_residual.ensures.1 in
    rw (p.1, p.2) (unloaded_as _ (λ files. TreeOf files c.args.name.now) c.args.name.now _ _ (λ files r e. unloaded r e) c.in_err-src.ensures.loads)

pub returns-in-Ok-clause-loads : goal.returns-in-Ok-clause-loads
returns-in-Ok-clause-loads g c =
    script_loaded IsTree NoTree (λ files. source_of files c.args.name.now) c.args.name.now c.in_ok-src.src.items _ _ c.in_ok-src.ensures.loads (rw c.as_slice.ensures.value at c.in-Ok.ensures.read)

pub returns-clause-loads : goal.returns-clause-loads
returns-clause-loads g c =
    script_unloads IsTree NoTree (λ files. source_of files c.args.name.now) c.args.name.now c.in_ok-src.src.items _ _ _ c.in_ok-src.ensures.loads.counts c.in_ok-src.ensures.loads.found
    (rw c.as_slice.ensures.value at c.in-Err.ensures.refused) (rw c.as_slice-in-Err.ensures.value at c.refuse_script.ensures)
