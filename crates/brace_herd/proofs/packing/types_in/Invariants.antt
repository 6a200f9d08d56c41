use Rattle.std.proofs.Common.{◌≡◌, map, take}
use Rattle.brace_herd.proofs.packing.types_in.Given as goal

abbrev pub invariant-loop-class : goal.invariant-loop-class
invariant-loop-class l =
    l.all.items ≡ map (λ c. map (λ s. s.ty) c.states) (take l.class-index l.program.classes)
