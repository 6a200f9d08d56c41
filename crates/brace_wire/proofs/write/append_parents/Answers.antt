use Rattle.brace_wire.specs.Frames.{parent}
use Rattle.brace_wire.proofs.WriteLemmas.{listed_done}
use Rattle.brace_wire.proofs.write.append_parents.Goals as goal

pub returns-clause-written : goal.returns-clause-written
returns-clause-written c = listed_done parent c.args.out.now.items c.loop-p.out.items c.args.parents.now c.loop-p.p-index c.loop-p-test.false c.loop-p.invariant.written
