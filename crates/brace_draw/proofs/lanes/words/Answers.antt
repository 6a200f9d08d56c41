use Rattle.std.proofs.Common.{◌%◌}
use Rattle.brace_draw.proofs.Words.{word_of}
use Rattle.brace_draw.proofs.lanes.words.Goals as goal

pub returns : goal.returns
returns c j lane =
    word_of _ _ _ (c.args.place % 16) _ _ _ (c.initial_states-first.ensures j lane)
    (c.rounds-before.ensures j lane) (c.word.ensures j lane)
