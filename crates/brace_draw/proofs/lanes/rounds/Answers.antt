use Rattle.std.proofs.Common.{◌≡◌, ◌∙◌, refl, ap, arith, add-one}
use Rattle.rand_chacha.specs.Block.{column_round, diagonal_round, double_rounds}
use Rattle.brace_draw.proofs.lanes.rounds.Goals as goal

pub rounds-init : goal.rounds-init
unfolding double_rounds
rounds-init c j h = refl

pub rounds-preserved : goal.rounds-preserved
unfolding double_rounds
rounds-preserved c j h =
    rw add-one (c.diagonal_round-x.ensures j h
    ∙ ap diagonal_round (c.column_round.ensures j h ∙ ap column_round (c.rounds.invariant j h)))

pub returns : goal.returns
returns c j h =
    let done : c.rounds._round ≡ 3 = omega arith in
    c.column_round-last.ensures j h ∙ ap column_round (rw done at (c.rounds.invariant j h))
