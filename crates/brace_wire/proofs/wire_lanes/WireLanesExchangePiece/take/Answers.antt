use Rattle.std.proofs.Common.{arith}
use Rattle.brace_wire.specs.Links.{takes_on}
use Rattle.brace_wire.proofs.LinkLemmas.{place_there, room_to_take, take_done}
use Rattle.brace_wire.proofs.wire_lanes.WireLanesExchangePiece.take.Goals as goal

pub index_mut-requires : goal.index_mut-requires
index_mut-requires c =
    omega (arith, place_there _ c.args.self.now c.self.view_is _ c.self.invariant c.args.name (takes_on c.args.self.now c.args.name.from c.args.name.to) c.requires.next, c.self.inside.links.ok.0)

pub take-requires : goal.take-requires
take-requires c = room_to_take _ c.args.self.now c.self.view_is _ c.self.invariant c.args.name c.index_mut.result.now c.index_mut.ensures.value c.requires.next

pub invariant_of-self : goal.invariant_of-self
invariant_of-self c = (take_done _ c.args.self.now c.self.view_is _ c.self.invariant c.args.name c.index_mut.result.now c.index_mut.ensures.value
    c.take.result c.take.new.self c.take.ensures.oldest c.take.ensures.taken c.requires.next).sound

pub returns : goal.returns
returns c =
    let done = take_done _ c.args.self.now c.self.view_is _ c.self.invariant c.args.name c.index_mut.result.now c.index_mut.ensures.value
    c.take.result c.take.new.self c.take.ensures.oldest c.take.ensures.taken c.requires.next in
    record { same = done.same; put = done.puts; taken = done.takes; right = done.is_right; kept = done.kept; found_none = done.none; oldest = done.oldest; events = done.events }
