use Rattle.std.proofs.Common.{take, drop, refl, length}
use Rattle.brace_tok.specs.Pieces.{block_comment, open_comment}
use Rattle.brace_tok.proofs.Standing.{block_stands, open_stands}
use Rattle.brace_tok.proofs.step.block_step.Goals as goal

pub returns-in-Some : goal.returns-in-Some
returns-in-Some c = (
  block_comment (take c.in-Some.length (drop 2 c.args.text.now)),
  block_stands _ _ c.requires.first c.requires.second (rw c.split_at.ensures.back at c.in-Some.ensures),
  refl,
)

pub returns-in-None : goal.returns-in-None
returns-in-None c = (
  open_comment (drop 2 c.args.text.now),
  length c.args.text.now,
  open_stands _ c.requires.first c.requires.second (rw c.split_at.ensures.back at c.in-None.ensures),
  refl,
)
