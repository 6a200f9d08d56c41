use Rattle.std.proofs.Common.{◌≡◌, ◌++◌, map, drop}
use Rattle.brace_names.proofs.StmtLemmas.{behind_all}
use Rattle.brace_check.specs.Meanings.{part, block}
use Rattle.brace_check.proofs.statement.+statements.Given as goal

abbrev pub invariant-block-loop-s : goal.invariant-block-loop-s
invariant-block-loop-s l =
    ((block (map part (drop l.s-index l.statements)) l.scope l.sites.items).1 ≡ (block (map part l.statements) l.fn.scope l.fn.sites.items).1)
    × (l.meant ++ (block (map part (drop l.s-index l.statements)) l.scope l.sites.items).0 ≡ (block (map part l.statements) l.fn.scope l.fn.sites.items).0)
    × (behind_all (map part (drop l.s-index l.statements)) l.scope ≡ behind_all (map part l.statements) l.fn.scope)
