use Rattle.brace_wire.specs.Frames.{entry}
use Rattle.brace_wire.proofs.WriteLemmas.{listed_done}
use Rattle.brace_wire.proofs.write.append_entries.Goals as goal

pub returns-clause-written : goal.returns-clause-written
returns-clause-written c = listed_done entry c.args.out.now.items c.loop-e.out.items c.args.entries.now c.loop-e.e-index c.loop-e-test.false c.loop-e.invariant.written
