use Rattle.std.proofs.Common.{◌≡◌, ◌++◌, map, drop}
use Rattle.brace_show.specs.Canonical.{block, deeper, statement}
use Rattle.brace_show.proofs.stmt.+statements.Given as goal

abbrev pub invariant-append_block-loop-s : goal.invariant-append_block-loop-s
invariant-append_block-loop-s l =
    (l.out.items ++ block (map statement (drop l.s-index l.statements)) l.fn.margin.items
    ≡ l.initial.out.items ++ block (map statement l.statements) l.fn.margin.items)
    × (l.margin.items ≡ deeper l.fn.margin.items)
