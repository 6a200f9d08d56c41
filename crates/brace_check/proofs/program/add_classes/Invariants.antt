use Rattle.std.proofs.Common.{◌≡◌, ◌++◌, drop}
use Rattle.brace_check.specs.Programs.{classes_from}
use Rattle.brace_check.proofs.program.add_classes.Given as goal

abbrev pub invariant-loop-class : goal.invariant-loop-class
invariant-loop-class l =
    ((classes_from l.known l.number (drop l.class-index l.trees) l.sites.items).1 ≡ (classes_from l.known 0 l.trees l.fn.sites.items).1)
    × (l.all ++ (classes_from l.known l.number (drop l.class-index l.trees) l.sites.items).0 ≡ l.fn.all ++ (classes_from l.known 0 l.trees l.fn.sites.items).0)
