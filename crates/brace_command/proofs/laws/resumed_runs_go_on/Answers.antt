use Rattle.brace_command.proofs.ResumeLemmas.{rows_go_on, ends_alike, fault_alike}
use Rattle.brace_command.proofs.laws.resumed_runs_go_on.Goals as goal

pub returns-clause-rows : goal.returns-clause-rows
returns-clause-rows c files job tick world run o from to_ reached goes_on is = rows_go_on files job tick world run o from to_ reached goes_on is

pub returns-clause-status : goal.returns-clause-status
returns-clause-status c files job tick world run o from to_ reached goes_on is = ends_alike files job tick world run o from to_ reached goes_on is

pub returns-clause-fault : goal.returns-clause-fault
returns-clause-fault c files job tick world run o from to_ reached goes_on is f found = fault_alike files job tick world run o from to_ reached goes_on is f found
