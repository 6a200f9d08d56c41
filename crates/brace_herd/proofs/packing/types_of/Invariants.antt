use Rattle.std.proofs.Common.{◌≡◌, map, take}
use Rattle.brace_herd.proofs.packing.types_of.Given as goal

abbrev pub invariant-loop-state : goal.invariant-loop-state
invariant-loop-state l = l.types ≡ map (λ s. s.ty) (take l.state-index l.class.states)
