use Rattle.std.proofs.Common.{◌≡◌, ◌++◌, drop}
use Rattle.brace_names.specs.Classes.{fields_behind}
use Rattle.brace_names.proofs.declared.add_fields.Given as goal

abbrev pub invariant-loop-member : goal.invariant-loop-member
invariant-loop-member l =
    l.all.items ++ fields_behind l.states l.effects (drop l.member-index l.members) ≡ l.initial.all.items ++ fields_behind 0 0 l.members
