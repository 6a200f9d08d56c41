use Rattle.std.proofs.Common.{◌≡◌, filter, take}
use Rattle.brace_invert.specs.Held.{is_near}
use Rattle.brace_pieces.proofs.lists.near_to.Given as goal

abbrev pub invariant-loop-a : goal.invariant-loop-a
invariant-loop-a l = l.found ≡ filter (is_near l.program l.area l.range) (take l.a-index l.agents)
