use Rattle.brace_wire.proofs.NetLemmas.{sound, kept}
use Rattle.brace_wire.proofs.laws.net_law.Goals as goal

pub returns-clause-in_order : goal.returns-clause-in_order
returns-clause-in_order c = λ lane h. (sound lane h).in_order

pub returns-clause-taken : goal.returns-clause-taken
returns-clause-taken c = λ lane h. (sound lane h).taken

pub returns-clause-kept : goal.returns-clause-kept
returns-clause-kept c = λ lane h. kept lane h
