use Rattle.std.proofs.Common.{◌≡◌, map, take}
use Rattle.brace_fold.proofs.columns.states_of.Given as goal

abbrev pub invariant-loop-agent : goal.invariant-loop-agent
invariant-loop-agent l = map (λ s. s.now) l.states.items ≡ map (λ r. r.now.states) (take l.agent-index l.rows)
