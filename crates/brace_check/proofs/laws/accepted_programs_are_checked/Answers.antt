use Rattle.brace_check.proofs.LawfulProof.{accepted_checked}
use Rattle.brace_check.proofs.laws.accepted_programs_are_checked.Goals as goal

pub returns : goal.returns
returns c r h = accepted_checked r h
