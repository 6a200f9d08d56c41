use Rattle.std.proofs.Common.{◌≡◌, filter}
use Rattle.std.specs.List.{range_with_len}
use Rattle.std.specs.Vec.{vec_capacity}
use Rattle.brace_pieces.specs.Steps.{meet}
use Rattle.brace_pieces.proofs.course.gather.Given as goal

abbrev pub invariant-loop-q : goal.invariant-loop-q
invariant-loop-q l =
    (l.others.items ≡ filter (meet l.setting l.at l.actor) (range_with_len 0 l.q))
    × (vec_capacity l.others ≡ vec_capacity l.fn.others)
