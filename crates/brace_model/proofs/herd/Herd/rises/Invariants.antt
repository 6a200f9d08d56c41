use Rattle.std.proofs.Common.{ℕ, ◌+◌, ◌<◌, get_or}
use Rattle.brace_model.specs.declared.world.Agent.{Agent}
use Rattle.brace_model.proofs.herd.Herd.rises.Given as goal

abbrev pub invariant-loop-i : goal.invariant-loop-i
invariant-loop-i l =
    (k : ℕ) (d : Agent) → k + 1 < l.i → (get_or l.self k d).id < (get_or l.self (k + 1) d).id
