use Rattle.brace_balance.proofs.Refusals.{accepted_is_lowest}
use Rattle.brace_balance.proofs.laws.accepted_loads_are_lowest.Goals as goal

pub returns : goal.returns
returns c = record { lowest = accepted_is_lowest }
