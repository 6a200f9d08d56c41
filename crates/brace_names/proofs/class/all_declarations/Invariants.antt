use Rattle.std.proofs.Common.{◌≡◌, ◌++◌, flat_map, drop}
use Rattle.brace_names.specs.Found.{declarations}
use Rattle.brace_names.proofs.class.all_declarations.Given as goal

abbrev pub invariant-loop-class : goal.invariant-loop-class
invariant-loop-class l =
    l.out.items ++ flat_map declarations (drop l.class-index l.classes) ≡ l.initial.out.items ++ flat_map declarations l.classes
