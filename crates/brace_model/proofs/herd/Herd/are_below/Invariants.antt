use Rattle.std.proofs.Common.{ℕ, ◌<◌, get_or}
use Rattle.brace_model.specs.declared.world.Agent.{Agent}
use Rattle.brace_model.proofs.herd.Herd.are_below.Given as goal

abbrev pub invariant-loop-place : goal.invariant-loop-place
invariant-loop-place l = (k : ℕ) (d : Agent) → k < l.place → (get_or l.self k d).id < l.next
