use Rattle.brace_wire.proofs.LinkLemmas.{all_low_received}
use Rattle.brace_wire.proofs.wire_lanes.WireLanes.actors.Goals as goal

pub returns-clause-received : goal.returns-clause-received
returns-clause-received c = all_low_received _ c.args.self.now c.self.view_is _ c.self.invariant
