use Rattle.std.proofs.Common.{◌≡◌, ◌++◌, flat_map, drop}
use Rattle.brace_check.specs.Found.{member}
use Rattle.brace_check.proofs.found.each_member.Given as goal

abbrev pub invariant-loop-one : goal.invariant-loop-one
invariant-loop-one l =
    l.out.items ++ flat_map (member l.home) (drop l.one-index l.members) ≡ l.initial.out.items ++ flat_map (member l.home) l.members
