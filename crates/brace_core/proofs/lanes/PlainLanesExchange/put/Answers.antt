use Rattle.brace_core.proofs.LaneLemmas.{room, put_done}
use Rattle.brace_core.proofs.lanes.PlainLanesExchange.put.Goals as goal

pub put-requires : goal.put-requires
put-requires g c = room g.F.Freight.schedule g.F.Freight.right _ c.args.self.now c.self.view_is c.self.invariant c.args.name c.index_mut.result.now c.index_mut.ensures.value c.requires.next c.requires.answered

pub invariant_of-self : goal.invariant_of-self
invariant_of-self g c = (put_done g.F.Freight.schedule g.F.Freight.right _ c.args.self.now c.self.view_is c.self.invariant c.args.name c.index_mut.result.now c.index_mut.ensures.value
    c.args.piece c.put.new.self c.put.ensures c.requires.next c.requires.answered c.requires.right).sound

pub returns : goal.returns
returns g c =
    let done = put_done g.F.Freight.schedule g.F.Freight.right _ c.args.self.now c.self.view_is c.self.invariant c.args.name c.index_mut.result.now c.index_mut.ensures.value
    c.args.piece c.put.new.self c.put.ensures c.requires.next c.requires.answered c.requires.right in
    record { same = done.same; actors = done.actors; put = done.puts; taken = done.takes; event = done.event }
