use Rattle.std.proofs.Common.{get_or, refl, sym}
use Rattle.brace_tok.specs.Pieces.{blank}
use Rattle.brace_tok.proofs.Standing.{blank_stands}
use Rattle.brace_tok.proofs.step.step_at.Goals as goal

pub returns-then-is_blank : goal.returns-then-is_blank
returns-then-is_blank c = (blank (get_or c.args.text.now 0 0), blank_stands _ c.requires (sym c.if-is_blank.ensures), refl)
