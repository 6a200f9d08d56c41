use Rattle.std.proofs.Common.{◌≡◌, ◌++◌, map, drop}
use Rattle.brace_names.specs.Tables.{table}
use Rattle.brace_names.specs.Classes.{fields}
use Rattle.brace_names.proofs.declared.field_tables.Given as goal

abbrev pub invariant-loop-class : goal.invariant-loop-class
invariant-loop-class l =
    l.all.items ++ map (λ class. table (fields class)) (drop l.class-index l.classes) ≡ map (λ class. table (fields class)) l.classes
