use Rattle.std.proofs.Common.{take, drop, ap, ◌∙◌}
use Rattle.brace_tok.specs.Pieces.{hash}
use Rattle.brace_tok.specs.Tables.{directive}
use Rattle.brace_tok.proofs.Standing.{hash_stands, said, refused_as}
use Rattle.brace_tok.proofs.step.hash_step.Goals as goal

pub returns-in-Some : goal.returns-in-Some
returns-in-Some c = (
  hash (take c.run_length-length.result (drop 1 c.args.text.now)),
  hash_stands _ _ c.requires (rw c.split_at.ensures.back at c.run_length-length.ensures),
  said _ directive _ _ _ c.in-Some.ensures (c.split_at-2.ensures.front ∙ ap (take c.run_length-length.result) c.split_at.ensures.back),
)

pub returns-in-None : goal.returns-in-None
returns-in-None c = (
  hash (take c.run_length-length.result (drop 1 c.args.text.now)),
  _,
  hash_stands _ _ c.requires (rw c.split_at.ensures.back at c.run_length-length.ensures),
  refused_as _ directive _ _ c.in-None.ensures (c.split_at-2.ensures.front ∙ ap (take c.run_length-length.result) c.split_at.ensures.back),
)
