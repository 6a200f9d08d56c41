use Rattle.brace_command.proofs.RestartLemmas.{rows-anew, fault-anew}
use Rattle.brace_command.proofs.laws.runs_may_be_begun_anew.Goals as goal

pub returns-clause-rows : goal.returns-clause-rows
returns-clause-rows c job tick world from to reached = rows-anew job tick world from to reached

pub returns-clause-fault : goal.returns-clause-fault
returns-clause-fault c job tick world from to reached = fault-anew job tick world from to reached
