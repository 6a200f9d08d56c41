use Rattle.brace_herd.proofs.near.with_more.Goals as goal

pub returns-clause-rows : goal.returns-clause-rows
returns-clause-rows c agents is = c.in_ok-add.ensures.rows agents is

pub returns-clause-listed : goal.returns-clause-listed
returns-clause-listed c agents is lawful = c.in_ok-expect_listed.ensures agents is lawful
