use Rattle.std.proofs.Common.{◌≡◌, [], ◌++◌, flat_map, drop}
use Rattle.brace_show.specs.Canonical.{deeper, member_text}
use Rattle.brace_show.proofs.class.append_members.Given as goal

abbrev pub invariant-loop-member : goal.invariant-loop-member
invariant-loop-member l =
    l.out.items ++ flat_map (member_text (deeper [])) (drop l.member-index l.members)
    ≡ l.initial.out.items ++ flat_map (member_text (deeper [])) l.members
