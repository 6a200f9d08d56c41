use Rattle.brace_comb.proofs.Joins.{join-assoc, join-comm}
use Rattle.brace_comb.proofs.laws.joins_are_regrouped.Goals as goal

pub returns : goal.returns
returns c = record { associative = join-assoc; commutative = join-comm }
