use Rattle.std.proofs.Common.{◌≡◌, ◌≤◌, ◌∙◌, sym, ap, subst, map, length, ℕ, List, rules}
use Rattle.std.proofs.Math.ListN.{drop_of_length-le}
use Rattle.brace_syntax.specs.declared.tree.StmtTree.{StmtTree}
use Rattle.brace_names.proofs.StmtLemmas.{behind_all, left_behind}
use Rattle.brace_check.specs.Meanings.{part}
use Rattle.brace_check.proofs.statement.+statements.Goals as goal

pub block-returns-clause-behind : goal.block-returns-clause-behind
block-returns-clause-behind n c =
    let statements : List StmtTree = c.args.statements.now in
    let over : length statements ≤ c.loop-s.s-index = subst (λ (l : List StmtTree). length l ≤ c.loop-s.s-index) c.as_slice-s-items.ensures c.loop-s-test.false in
    let end : c.loop-s.scope ≡ behind_all (map part statements) c.args.scope.now =
    ap (λ (l : List StmtTree). behind_all (map part l) c.loop-s.scope) (sym (drop_of_length-le statements over)) ∙ c.loop-s.invariant.2 in
    let left = left_behind (map part statements) c.args.scope.now c.loop-s.scope end in
    search (c.leave.ensures, c.loops-loops.ensures, c.len-len.ensures, left, rules)
