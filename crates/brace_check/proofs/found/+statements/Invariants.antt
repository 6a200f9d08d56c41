use Rattle.std.proofs.Common.{◌≡◌, ◌++◌, map, drop}
use Rattle.brace_names.specs.Walk.{block}
use Rattle.brace_names.proofs.StmtLemmas.{behind_all}
use Rattle.brace_check.specs.Found.{part}
use Rattle.brace_check.proofs.found.+statements.Given as goal

abbrev pub invariant-block-loop-s : goal.invariant-block-loop-s
invariant-block-loop-s l =
    (l.out.items ++ block (map part (drop l.s-index l.statements)) l.scope ≡ l.fn.out.items ++ block (map part l.statements) l.fn.scope)
    × (behind_all (map part (drop l.s-index l.statements)) l.scope ≡ behind_all (map part l.statements) l.fn.scope)
