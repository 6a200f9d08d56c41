use Rattle.brace_model.proofs.FaultLemmas.{before_itself, before_in_turn, one_before}
use Rattle.brace_model.proofs.laws.fault_order_is_total.Goals as goal

pub returns : goal.returns
returns c = record { itself = before_itself; in_turn = before_in_turn; one_of_two = one_before }
