use Rattle.brace_herd.proofs.work.Worker.beside.Goals as goal

pub returns-in-Ok-clause-rows : goal.returns-in-Ok-clause-rows
returns-in-Ok-clause-rows c agents is = c.in-Ok.ensures.rows agents is

pub returns-in-Ok-clause-listed : goal.returns-in-Ok-clause-listed
returns-in-Ok-clause-listed c agents is lawful = c.in-Ok.ensures.listed agents is lawful
