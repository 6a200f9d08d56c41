use Rattle.brace_lanes.proofs.TalkLemmas.{talk_below}
use Rattle.brace_lanes.proofs.tests.converse.Goals as goal

pub make-requires-clause-below : goal.make-requires-clause-below
make-requires-clause-below g c = talk_below c.args.steps
