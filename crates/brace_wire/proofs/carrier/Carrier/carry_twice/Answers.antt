use Rattle.brace_wire.proofs.SendLemmas.{ok_twice}
use Rattle.brace_wire.proofs.carrier.Carrier.carry_twice.Goals as goal

pub returns-clause-same : goal.returns-clause-same
returns-clause-same c = ok_twice c.carry-2.result c.args.out.now.items c.carry.new.out.items c.carry-2.new.out.items c.args.f.now c.in_ok-carry.ensures.same c.carry-2.ensures.same
