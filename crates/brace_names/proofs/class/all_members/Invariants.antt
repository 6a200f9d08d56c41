use Rattle.std.proofs.Common.{◌≡◌, ◌++◌, drop}
use Rattle.brace_names.specs.Walk.{in_classes}
use Rattle.brace_names.specs.Found.{member}
use Rattle.brace_names.proofs.class.all_members.Given as goal

abbrev pub invariant-loop-class : goal.invariant-loop-class
invariant-loop-class l =
    l.out.items ++ in_classes member l.known l.number (drop l.class-index l.classes)
    ≡ l.initial.out.items ++ in_classes member l.known 0 l.classes
