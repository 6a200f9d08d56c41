use Rattle.std.proofs.Common.{◌≡◌, ◌++◌, drop}
use Rattle.brace_names.specs.Walk.{in_classes}
use Rattle.brace_check.specs.Found.{member}
use Rattle.brace_check.proofs.found.in_classes.Given as goal

abbrev pub invariant-loop-one : goal.invariant-loop-one
invariant-loop-one l =
    l.out.items ++ in_classes member l.known l.number (drop l.one-index l.classes)
    ≡ l.initial.out.items ++ in_classes member l.known 0 l.classes
