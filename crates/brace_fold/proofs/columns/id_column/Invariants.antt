use Rattle.std.proofs.Common.{◌≡◌, map, take}
use Rattle.brace_fold.proofs.columns.id_column.Given as goal

abbrev pub invariant-loop-agent : goal.invariant-loop-agent
invariant-loop-agent l = l.ids.items ≡ map (λ r. r.now.id) (take l.agent-index l.rows)
