use Rattle.std.proofs.Common.{◌≡◌, map, take}
use Rattle.brace_fold.proofs.columns.class_column.Given as goal

abbrev pub invariant-loop-agent : goal.invariant-loop-agent
invariant-loop-agent l = l.classes.items ≡ map (λ r. r.now.class) (take l.agent-index l.rows)
