use Rattle.std.proofs.Common.{◌≡◌, map, take}
use Rattle.brace_fold.proofs.columns.each.Given as goal

abbrev pub invariant-loop-agent : goal.invariant-loop-agent
invariant-loop-agent l = map (λ r. r.now) l.rows.items ≡ take l.agent-index l.agents
