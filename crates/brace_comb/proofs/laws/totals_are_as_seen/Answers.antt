use Rattle.brace_comb.proofs.Joins.{as_seen}
use Rattle.brace_comb.proofs.laws.totals_are_as_seen.Goals as goal

pub returns : goal.returns
returns c = record { seen = as_seen }
