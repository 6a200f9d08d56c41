use Rattle.std.proofs.lemmas.Result.{err_from_is_err_and}
use Rattle.brace_command.specs.Scripts.{in_tokens, in_grammar}
use Rattle.brace_command.proofs.script.read_tree.Goals as goal

pub returns-in_err-toks-clause-refused : goal.returns-in_err-toks-clause-refused
returns-in_err-toks-clause-refused c =
    let p = err_from_is_err_and c.from_residual.result c.from_residual.ensures.1 in
    rw (p.1, p.2) (in_tokens _ c.in_err-toks.ensures.refused)

pub returns-in_err-tree-clause-refused : goal.returns-in_err-tree-clause-refused
returns-in_err-tree-clause-refused c =
    let p = err_from_is_err_and c.from_residual-in_err-tree.result c.from_residual-in_err-tree.ensures.1 in
    rw (p.1, p.2) (in_grammar c.as_slice.result.now _ (rw (← c.as_slice.ensures.value) at c.in_ok-toks.ensures.spelled) c.in_err-tree.ensures.refused c.in_err-tree.ensures.place)
