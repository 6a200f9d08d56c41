use Rattle.std.proofs.Common.{◌≡◌, ◌++◌, flat_map, drop}
use Rattle.brace_show.specs.Canonical.{class_text}
use Rattle.brace_show.proofs.entry.append_classes.Given as goal

abbrev pub invariant-loop-class : goal.invariant-loop-class
invariant-loop-class l =
    l.out.items ++ flat_map class_text (drop l.class-index l.classes) ≡ l.initial.out.items ++ flat_map class_text l.classes
