use Rattle.std.proofs.Common.{arith}
use Rattle.brace_core.proofs.LaneLemmas.{sound_made}
use Rattle.brace_core.proofs.lanes.PlainLanes.make.Goals as goal

pub invariant_of-result : goal.invariant_of-result
invariant_of-result g c = sound_made g.F.Freight.schedule g.F.Freight.right c.args.setting.now c.of.result.value c.args.actors c.loop.counter c.loop.lanes.items
    c.of.ensures c.loop.invariant (omega arith) c.requires.few c.requires.below c.requires.short
