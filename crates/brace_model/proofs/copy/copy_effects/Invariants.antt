use Rattle.std.proofs.Common.{◌≡◌, take}
use Rattle.brace_model.proofs.copy.copy_effects.Given as goal

abbrev pub invariant-loop-effect : goal.invariant-loop-effect
invariant-loop-effect l = l.copy ≡ take l.effect-index l.effects
