use Rattle.std.proofs.Common.{◌≡◌, ◌++◌, map, drop}
use Rattle.brace_names.proofs.class.names_of.Given as goal

abbrev pub invariant-loop-class : goal.invariant-loop-class
invariant-loop-class l = l.names.items ++ map (λ class. class.name) (drop l.class-index l.classes) ≡ map (λ class. class.name) l.classes
