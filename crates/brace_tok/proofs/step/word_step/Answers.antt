use Rattle.std.proofs.Common.{take}
use Rattle.brace_tok.specs.Pieces.{word}
use Rattle.brace_tok.specs.Roles.{word_kind}
use Rattle.brace_tok.proofs.Standing.{word_stands, said, refused_as}
use Rattle.brace_tok.proofs.step.word_step.Goals as goal

pub returns-in-Some : goal.returns-in-Some
returns-in-Some c = (word (take c.run_length-length.result c.args.text.now), word_stands _ _ c.requires c.run_length-length.ensures, said _ word_kind _ _ _ c.in-Some.ensures c.split_at.ensures.front)

pub returns-in-None : goal.returns-in-None
returns-in-None c = (word (take c.run_length-length.result c.args.text.now), c.run_length-length.result, word_stands _ _ c.requires c.run_length-length.ensures, refused_as _ word_kind _ _ c.in-None.ensures c.split_at.ensures.front)
