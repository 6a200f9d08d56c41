use Rattle.std.proofs.Common.{◌≡◌, take}
use Rattle.brace_model.proofs.herd.Herd.of.Given as goal

abbrev pub invariant-loop-agent : goal.invariant-loop-agent
invariant-loop-agent l = l.herd ≡ take l.agent-index l.agents
