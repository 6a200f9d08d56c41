use Rattle.std.proofs.Common.{◌≡◌, ◌++◌, [], ◌∷◌, flat_map, take}
use Rattle.brace_save.specs.Texts.{class_line}
use Rattle.brace_save.proofs.write.append_classes.Given as goal

abbrev pub invariant-loop-class : goal.invariant-loop-class
invariant-loop-class l = l.out.items ≡ l.initial.out.items ++ flat_map (λ c. class_line c ++ 10 ∷ []) (take l.class-index l.classes)
