use Rattle.std.proofs.Common.{◌≡◌, take}
use Rattle.brace_model.proofs.copy.copy_states.Given as goal

abbrev pub invariant-loop-state : goal.invariant-loop-state
invariant-loop-state l = l.copy ≡ take l.state-index l.states
