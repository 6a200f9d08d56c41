use Rattle.std.proofs.Common.{◌≡◌, take}
use Rattle.brace_model.proofs.herd.Herd.agents.Given as goal

abbrev pub invariant-loop-place : goal.invariant-loop-place
invariant-loop-place l = l.agents.items ≡ take l.place l.self
