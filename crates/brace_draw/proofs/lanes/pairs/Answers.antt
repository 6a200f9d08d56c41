use Rattle.std.proofs.Common.{◌≡◌, ◌/◌, ◌%◌, arith}
use Rattle.brace_draw.proofs.Words.{word_of}
use Rattle.brace_draw.proofs.lanes.pairs.Goals as goal

pub returns-clause-first : goal.returns-clause-first
returns-clause-first c j lane =
    word_of _ _ _ (c.args.places.0 % 16) _ _ _ (c.initial_states-first.ensures j lane)
    (c.rounds-before.ensures j lane) (c.word.ensures j lane)

pub returns-clause-second : goal.returns-clause-second
returns-clause-second c j lane =
    let same : c.args.places.1 / 16 ≡ c.args.places.0 / 16 = omega arith in
    rw same (word_of _ _ _ (c.args.places.1 % 16) _ _ _ (c.initial_states-first.ensures j lane)
    (c.rounds-before.ensures j lane) (c.word-2.ensures j lane))
