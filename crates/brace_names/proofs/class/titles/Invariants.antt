use Rattle.std.proofs.Common.{◌≡◌, ◌++◌, map, drop}
use Rattle.brace_names.specs.Classes.{title}
use Rattle.brace_names.proofs.class.titles.Given as goal

abbrev pub invariant-loop-member : goal.invariant-loop-member
invariant-loop-member l = l.titles.items ++ map title (drop l.member-index l.members) ≡ map title l.members
