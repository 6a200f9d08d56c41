use Rattle.std.proofs.Common.{arith, take, length-take}
use Rattle.brace_portions.proofs.PortionLemmas.{adds_whole, stops_whole}
use Rattle.brace_portions.proofs.shelf.PortionedShelf.append.Goals as goal

pub returns-clause-adds : goal.returns-clause-adds
returns-clause-adds g c =
    let old = c.args.self.now.inner in
    adds_whole c.append.result (g.S.Shelf.held old) (g.S.Shelf.held c.append.new.self) (g.S.Shelf.stage old) c.args.piece.now c.portion-n.result c.append.ensures.within c.append.ensures.adds

pub returns-clause-stops_at_none : goal.returns-clause-stops_at_none
returns-clause-stops_at_none g c =
    let old = c.args.self.now.inner in
    let new = c.append.new.self in
    let piece = c.args.piece.now in
    let n = c.portion-n.result in
    stops_whole c.append.result (g.S.Shelf.held old) (g.S.Shelf.held new) (g.S.Shelf.stage old) (g.S.Shelf.stage new) piece (take n piece)
    (λ room. omega (arith, room, c.portion-n.ensures.some room, length-take n piece))
    c.append.ensures.stops_at_none
