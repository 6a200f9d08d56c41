use Rattle.brace_comb.proofs.Groups.{one_partial, any_order, either_way, grouped}
use Rattle.brace_comb.proofs.laws.givings_are_regrouped.Goals as goal

pub returns : goal.returns
returns c = record { one = one_partial; any_order = any_order; either_way = either_way; grouped = grouped }
