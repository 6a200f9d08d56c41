use Rattle.brace_comb.proofs.Joins.{tally_of-bounded}
use Rattle.brace_comb.proofs.laws.totals_are_bounded.Goals as goal

pub returns : goal.returns
returns c = record { bounded = tally_of-bounded }
