use Rattle.brace_invert.proofs.Inverting.{forward_foreseen, inverse_foreseen, faults_kept, found_none, least_same}
use Rattle.brace_invert.proofs.laws.least_fault_kept.Goals as goal

pub returns : goal.returns
returns c = record { forward = forward_foreseen; inverse = inverse_foreseen; found = faults_kept; none = found_none; least = least_same }
