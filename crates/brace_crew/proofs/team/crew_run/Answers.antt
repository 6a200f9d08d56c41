use Rattle.std.proofs.Common.{refl, inr}
use Rattle.brace_crew.proofs.team.crew_run.Goals as goal

pub make-requires-clause-below : goal.make-requires-clause-below
make-requires-clause-below g c = c.actors.ensures.below

pub make-requires-clause-short : goal.make-requires-clause-short
make-requires-clause-short g c = c.actors.ensures.short

-- where the lanes found no memory there is no seat
pub returns-in-Err-clause-left : goal.returns-in-Err-clause-left
returns-in-Err-clause-left g c two = inr (record { no_memory = refl; same = refl }, c.new-in-Err.ensures.items)
