use Rattle.std.proofs.Common.{[]}
use Rattle.brace_eval.proofs.step.all_heard.Goals as goal

pub returns-clause-totals : goal.returns-clause-totals
returns-clause-totals c = (c.in_ok-hear.ensures.heard [] [] c.in_ok-heard.ensures.nothing).totals

pub returns-clause-least : goal.returns-clause-least
returns-clause-least c = (c.in_ok-hear.ensures.heard [] [] c.in_ok-heard.ensures.nothing).least
