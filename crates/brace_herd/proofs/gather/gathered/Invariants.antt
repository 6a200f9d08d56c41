use Rattle.std.proofs.Common.{◌≡◌, ◌++◌, flat_map}
use Rattle.std.specs.Vec.{vec_capacity}
use Rattle.std.specs.List.Sorted.{IsPermutation}
use Rattle.brace_pieces.specs.Exchanged.{brought}
use Rattle.brace_herd.proofs.gather.gathered.Given as goal

-- what is left to gather and what was gathered are all that is to be gathered
abbrev pub invariant-loop-piece : goal.invariant-loop-piece
invariant-loop-piece l =
    IsPermutation (l.initial.agents ++ flat_map brought l.initial.pieces.items)
    (l.agents ++ flat_map brought l.pieces.items)
    × (vec_capacity l.pieces ≡ vec_capacity l.initial.pieces)

abbrev pub decreases-loop-piece : goal.decreases-loop-piece
decreases-loop-piece l = goal.left-loop-piece l
