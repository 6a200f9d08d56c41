use Rattle.std.proofs.Common.{◌≡◌, flat_map, drop}
use Rattle.brace_check.specs.Programs.{visible_of, first_or_0}
use Rattle.brace_check.proofs.program.visible.Given as goal

abbrev pub invariant-loop-member : goal.invariant-loop-member
invariant-loop-member l =
    first_or_0 (flat_map visible_of (drop l.member-index l.members)) ≡ first_or_0 (flat_map visible_of l.members)
