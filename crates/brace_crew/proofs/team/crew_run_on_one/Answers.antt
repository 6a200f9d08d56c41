use Rattle.brace_crew.proofs.team.crew_run_on_one.Goals as goal

pub make-requires-clause-below : goal.make-requires-clause-below
make-requires-clause-below g c κs = c.actors.ensures.below

pub make-requires-clause-short : goal.make-requires-clause-short
make-requires-clause-short g c κs = c.actors.ensures.short
