use Rattle.std.proofs.Common.{arith}
use Rattle.brace_wire.specs.Links.{puts_on}
use Rattle.brace_wire.proofs.LinkLemmas.{place_there, room_to_count, put_done}
use Rattle.brace_wire.proofs.wire_lanes.WireLanesExchangePiece.put.Goals as goal

pub index_mut-requires : goal.index_mut-requires
index_mut-requires c =
    omega (arith, place_there _ c.args.self.now c.self.view_is _ c.self.invariant c.args.name (puts_on c.args.self.now c.args.name.from c.args.name.to) c.requires.next, c.self.inside.links.ok.0)

pub put-requires : goal.put-requires
put-requires c = room_to_count _ c.args.self.now c.self.view_is _ c.self.invariant c.args.name c.index_mut.result.now c.index_mut.ensures.value c.requires.next

pub invariant_of-self : goal.invariant_of-self
invariant_of-self c = (put_done _ c.args.self.now c.self.view_is _ c.self.invariant c.args.name c.index_mut.result.now c.index_mut.ensures.value
    c.args.piece c.put.new.self c.put.ensures c.requires.next c.requires.answered c.requires.right).sound

pub returns : goal.returns
returns c =
    let done = put_done _ c.args.self.now c.self.view_is _ c.self.invariant c.args.name c.index_mut.result.now c.index_mut.ensures.value
    c.args.piece c.put.new.self c.put.ensures c.requires.next c.requires.answered c.requires.right in
    record { same = done.same; put = done.puts; taken = done.takes; kept = done.kept; events = done.events }
