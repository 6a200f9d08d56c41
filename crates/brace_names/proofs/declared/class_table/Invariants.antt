use Rattle.std.proofs.Common.{◌≡◌, fold, drop}
use Rattle.brace_names.specs.Tables.{with_name, table}
use Rattle.brace_names.specs.Classes.{numbered_from}
use Rattle.brace_names.proofs.declared.class_table.Given as goal

abbrev pub invariant-loop-class : goal.invariant-loop-class
invariant-loop-class l =
    fold (λ names one. with_name names one.0.text one.1) l.names (numbered_from l.number (drop l.class-index l.classes)) ≡ table (numbered_from 0 l.classes)
