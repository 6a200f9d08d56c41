use Rattle.std.proofs.Common.{◌≡◌, ◌++◌, flat_map, take}
use Rattle.brace_save.specs.Texts.{state_text}
use Rattle.brace_save.proofs.write.append_states.Given as goal

abbrev pub invariant-loop-state : goal.invariant-loop-state
invariant-loop-state l = l.out.items ≡ l.initial.out.items ++ flat_map state_text (take l.state-index l.states)
