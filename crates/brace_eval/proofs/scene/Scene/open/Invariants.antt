use Rattle.std.proofs.Common.{◌≡◌, take}
use Rattle.brace_model.specs.World.{ids}
use Rattle.brace_eval.proofs.scene.Scene.open.Given as goal

abbrev pub invariant-loop-agent : goal.invariant-loop-agent
invariant-loop-agent l = l.ids.items ≡ ids (take l.agent-index l.agents)
