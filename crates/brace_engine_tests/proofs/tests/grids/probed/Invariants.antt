use Rattle.brace_engine_tests.proofs.tests.grids.probed.Given as goal

abbrev pub ghosts-found : goal.ghosts-found
ghosts-found a = record { name = a.blank.name; parts = a.blank.parts }
