use Rattle.std.proofs.Common.{sym, subst}
use Rattle.brace_model.specs.Lawful.{LawfulProgram}
use Rattle.brace_invert.proofs.LawfulParts.{forward_is_lawful, inverse_is_lawful}
use Rattle.brace_invert.proofs.parts.split.Goals as goal

pub returns-clause-forward_is_lawful : goal.returns-clause-forward_is_lawful
returns-clause-forward_is_lawful c = subst LawfulProgram (sym c.in_ok-forward.ensures) (forward_is_lawful c.args.program.now c.requires.lawful)

pub returns-clause-inverse_is_lawful : goal.returns-clause-inverse_is_lawful
returns-clause-inverse_is_lawful c = subst LawfulProgram (sym c.in_ok-inverse.ensures) (inverse_is_lawful c.args.program.now c.requires.lawful)
