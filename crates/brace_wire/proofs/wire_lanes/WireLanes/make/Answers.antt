use Rattle.std.proofs.Common.{arith}
use Rattle.brace_wire.proofs.RoundLemmas.{sound_made}
use Rattle.brace_wire.proofs.wire_lanes.WireLanes.make.Goals as goal

pub invariant_of-result : goal.invariant_of-result
invariant_of-result c = sound_made c.args.setting.now c.of.result.value c.args.actors c.loop.counter 0 c.args.fates.items c.loop.links.items _
    c.of.ensures c.loop.invariant (omega arith) c.requires.few c.requires.below c.requires.short c.requires.has_bytes c.requires.delivers c.in_ok-carrier.ensures
