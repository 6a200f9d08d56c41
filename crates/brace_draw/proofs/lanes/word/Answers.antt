use Rattle.std.proofs.Common.{◌∙◌, sym, ap₂}
use Rattle.rand_chacha.specs.Block.{add32}
use Rattle.rand_chacha.proofs.LaneLemmas.{slice_index-lane}
use Rattle.brace_draw.proofs.lanes.word.Goals as goal

pub returns : goal.returns
returns c j lane =
    let k = c.args.k in
    c.add.ensures j lane
    ∙ ap₂ add32 (c.diagonal_word-last.ensures j lane)
    (sym (slice_index-lane c.args.first.now j k c.requires))
