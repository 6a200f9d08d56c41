use Rattle.std.proofs.Common.{rules}
use Rattle.brace_names.proofs.StmtLemmas.{left_by_loop}
use Rattle.brace_names.specs.Found.{part}
use Rattle.brace_names.proofs.stmt.+statements.Goals as goal

pub block-returns-clause-behind : goal.block-returns-clause-behind
block-returns-clause-behind n c =
    let left = left_by_loop part c.args.statements.now _ _ c.args.scope.now c.loop-s.scope c.as_slice-s-items.ensures c.loop-s-test.false c.loop-s.invariant.1 in
    search (c.leave.ensures, c.loops-loops.ensures, c.len-len.ensures, left, rules)
