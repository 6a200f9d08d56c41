use Rattle.std.proofs.Common.{◌≡◌, map, take}
use Rattle.brace_wire.proofs.decoder.layout_of.Given as goal

abbrev pub invariant-loop-class : goal.invariant-loop-class
invariant-loop-class l = l.layout.items ≡ map (λ c. map (λ s. s.ty) c.states) (take l.class-index l.classes)
