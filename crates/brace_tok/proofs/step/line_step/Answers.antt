use Rattle.std.proofs.Common.{take, drop, refl}
use Rattle.brace_tok.specs.Pieces.{line_comment}
use Rattle.brace_tok.proofs.Standing.{line_stands}
use Rattle.brace_tok.proofs.step.line_step.Goals as goal

pub returns : goal.returns
returns c = (
  line_comment (take c.run_length.result (drop 2 c.args.text.now)),
  line_stands _ _ c.requires.first c.requires.second (rw c.split_at.ensures.back at c.run_length.ensures),
  refl,
)
