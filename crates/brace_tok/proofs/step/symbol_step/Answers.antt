use Rattle.std.proofs.Common.{take, [], ◌∷◌, get_or, sym, refl}
use Rattle.brace_tok.specs.Pieces.{sign, stray}
use Rattle.brace_tok.specs.Tables.{symbol}
use Rattle.brace_tok.proofs.Standing.{pair_stands, single_stands, stray_stands, said_pair, said}
use Rattle.brace_tok.proofs.step.symbol_step.Goals as goal

pub returns-in-Some : goal.returns-in-Some
returns-in-Some c =
    (sign (take 2 c.args.text.now), pair_stands _ _ (sym c.in-Some.ensures) c.requires.comment, said_pair _ _ _ (sym c.in-Some.ensures))

pub returns-in-Some-single : goal.returns-in-Some-single
returns-in-Some-single c = (
  sign (get_or c.args.text.now 0 0 ∷ []),
  single_stands _ _ c.requires.length (sym c.in_default.ensures) (sym c.in-Some-single.ensures) c.requires.comment,
  said _ symbol _ _ _ c.in-Some-single.ensures refl,
)

pub returns-in-None : goal.returns-in-None
returns-in-None c = (
  stray (get_or c.args.text.now 0 0),
  1,
  stray_stands _ c.requires.length (sym c.in_default.ensures) (sym c.in-None.ensures) c.requires.blank c.requires.word c.requires.hash,
  refl,
)
