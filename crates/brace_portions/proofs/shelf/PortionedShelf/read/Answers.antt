use Rattle.std.proofs.Common.{◌<◌, arith, drop, length, length-append, length-drop, length-take}
use Rattle.brace_portions.proofs.PortionLemmas.{next_whole}
use Rattle.brace_portions.proofs.shelf.PortionedShelf.read.Goals as goal

pub returns-clause-next : goal.returns-clause-next
returns-clause-next g c =
    let old = c.args.self.now.inner in
    let buffer = c.args.buffer.now in
    let n = c.portion-n.result in
    let front = c.read.new.buffer in
    let rest = drop n buffer in
    next_whole c.read.result (g.S.Shelf.held old) (g.S.Shelf.stage old) front rest
    (λ room.
    let full : 0 < length buffer = omega (arith, room, length-append front rest, length-take n buffer, length-drop n buffer, c.read.auto.buffer) in
    omega (arith, full, c.portion-n.ensures.some full, length-take n buffer, c.read.auto.buffer))
    c.read.ensures.within c.read.ensures.next
