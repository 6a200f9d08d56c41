use Rattle.brace_wire.specs.Frames.{shown}
use Rattle.brace_wire.proofs.WriteLemmas.{listed_done}
use Rattle.brace_wire.proofs.write.append_shows.Goals as goal

pub returns-clause-written : goal.returns-clause-written
returns-clause-written c = listed_done shown c.args.out.now.items c.loop-s.out.items c.args.shows.now c.loop-s.s-index c.loop-s-test.false c.loop-s.invariant.written
