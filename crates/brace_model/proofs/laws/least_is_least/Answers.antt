use Rattle.brace_model.proofs.FaultLemmas.{least_is, least_none, least_any_order}
use Rattle.brace_model.proofs.laws.least_is_least.Goals as goal

pub returns : goal.returns
returns c = record { least = least_is; none = least_none; any_order = least_any_order }
