use Rattle.brace_comb.proofs.Said.{one_totals, any_order_said, each_total, alone}
use Rattle.brace_comb.proofs.laws.sayings_are_totalled.Goals as goal

pub returns : goal.returns
returns c = record { one = one_totals; any_order = any_order_said; each = each_total; alone = alone }
