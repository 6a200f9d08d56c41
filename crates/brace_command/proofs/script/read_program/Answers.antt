use Rattle.std.proofs.lemmas.Result.{err_from_is_err_and}
use Rattle.brace_command.specs.Scripts.{without_tree, in_names}
use Rattle.brace_command.proofs.ScriptLemmas.{is_resolved, means_of, checks_refuse}
use Rattle.brace_command.proofs.script.read_program.Goals as goal

pub returns-in_err-tree-clause-refused : goal.returns-in_err-tree-clause-refused
returns-in_err-tree-clause-refused c =
    let p = err_from_is_err_and c.from_residual.result c.from_residual.ensures.1 in
    rw (p.1, p.2) (without_tree _ c.in_err-tree.ensures.refused)

pub returns-in_err-resolved-clause-refused : goal.returns-in_err-resolved-clause-refused
returns-in_err-resolved-clause-refused c =
    let p = err_from_is_err_and c.from_residual-in_err-resolved.result c.from_residual-in_err-resolved.ensures.1 in
    rw (p.1, p.2) (in_names _ _ c.in_ok-tree.ensures.read c.in_err-resolved.ensures.first)

pub returns-in_err-program-clause-refused : goal.returns-in_err-program-clause-refused
returns-in_err-program-clause-refused c =
    let p = err_from_is_err_and c.from_residual-in_err-program.result c.from_residual-in_err-program.ensures.1 in
    rw (p.1, p.2) (checks_refuse _ _ _ _ c.in_ok-tree.ensures.read c.in_ok-resolved.ensures.faultless c.in_ok-resolved.ensures.tree c.in_ok-resolved.ensures.bindings c.in_err-program.ensures.first)

pub returns-clause-read : goal.returns-clause-read
returns-clause-read c =
    means_of _ _ _ _ c.in_ok-tree.ensures.read c.in_ok-resolved.ensures.faultless c.in_ok-resolved.ensures.tree c.in_ok-resolved.ensures.bindings
    c.in_ok-program.ensures.faultless c.in_ok-program.ensures.program

pub returns-clause-lawful : goal.returns-clause-lawful
returns-clause-lawful c =
    c.in_ok-program.ensures.lawful c.args.src.now
    (is_resolved _ _ _ c.in_ok-tree.ensures.read c.in_ok-resolved.ensures.faultless c.in_ok-resolved.ensures.tree c.in_ok-resolved.ensures.bindings)
