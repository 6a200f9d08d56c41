use Rattle.brace_comb.proofs.Said.{may_merge}
use Rattle.brace_comb.proofs.laws.totals_may_be_merged.Goals as goal

pub returns : goal.returns
returns c = record { joins = may_merge }
