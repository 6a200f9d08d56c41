use Rattle.std.proofs.Common.{◌≡◌, map, sum, take}
use Rattle.brace_model.specs.Sites.{assignments}
use Rattle.brace_invert.proofs.parts.+saying.Given as goal

abbrev pub invariant-says-loop-s : goal.invariant-says-loop-s
invariant-says-loop-s l = sum (map assignments (take l.s-index l.block)) ≡ 0
