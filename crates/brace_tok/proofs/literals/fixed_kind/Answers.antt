use Rattle.std.proofs.Common.{sym}
use Rattle.brace_tok.proofs.Digits.{wide_decimals}
use Rattle.brace_tok.proofs.literals.fixed_kind.Goals as goal

pub returns-in_default : goal.returns-in_default
returns-in_default c = sym (wide_decimals c.args.digits.now c.args.decimals.now c.in_default.ensures)
