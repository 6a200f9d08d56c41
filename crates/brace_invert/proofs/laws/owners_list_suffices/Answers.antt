use Rattle.brace_invert.proofs.Owners.{forward_held, faults_held}
use Rattle.brace_invert.proofs.Heard.{inverse_said_held}
use Rattle.brace_invert.proofs.Kept.{inverse_fault_held}
use Rattle.brace_invert.proofs.laws.owners_list_suffices.Goals as goal

pub returns : goal.returns
returns c = record { forward = forward_held; inverse = inverse_said_held; faults = faults_held; assigned = λ m seed tick w area held lawful rises holds b wb stands g found hit. inverse_fault_held m seed tick w area held lawful rises holds b wb stands g hit found }
