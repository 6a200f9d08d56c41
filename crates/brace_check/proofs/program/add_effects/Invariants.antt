use Rattle.std.proofs.Common.{◌≡◌, ◌++◌, flat_map, drop}
use Rattle.brace_check.specs.Programs.{effect_of}
use Rattle.brace_check.proofs.program.add_effects.Given as goal

abbrev pub invariant-loop-member : goal.invariant-loop-member
invariant-loop-member l = l.all ++ flat_map effect_of (drop l.member-index l.members) ≡ l.fn.all ++ flat_map effect_of l.members
