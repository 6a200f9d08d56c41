use Rattle.std.proofs.Common.{◌≡◌, flat_map, drop}
use Rattle.brace_check.specs.Programs.{reach_of, first_or_0}
use Rattle.brace_check.proofs.program.reach.Given as goal

abbrev pub invariant-loop-member : goal.invariant-loop-member
invariant-loop-member l =
    first_or_0 (flat_map reach_of (drop l.member-index l.members)) ≡ first_or_0 (flat_map reach_of l.members)
