use Rattle.std.proofs.Common.{◌+◌, rules, arith}
use Rattle.brace_io.specs.Shelves.{HoldsFront}
use Rattle.brace_io.proofs.WholeLemmas.{holds-then, only-then, writes-still, to_end, rest-within}
use Rattle.brace_io.proofs.write.append_whole.Goals as goal

pub loop-done-preserved : goal.loop-done-preserved
loop-done-preserved g c =
    let i = c.loop-done.invariant in
    let rest = to_end c.loop-done.done c.args.piece.now i.within in
    let e = c.in_ok-n.ensures in
    let name = c.args.name.now in
    let only = e.only name i.writes in
    record {
      within = rest-within c.loop-done.done c.in_ok-n.n c.args.piece.now i.within e.within;
      writes = writes-still _ _ _ _ name (e.writes (λ none. absurd (omega (arith, none, c.if-n-eq0.false)))) only.0 i.writes;
      so_far = holds-then _ _ name c.loop-done.done c.in_ok-n.n c.args.piece.now i.so_far (rw rest at (e.adds name i.writes)) only.0;
      only = only-then _ _ _ name i.only only;
      faults = omega (arith, i.faults, e.never_falls);
    }

pub returns-in_err-n-clause-front : goal.returns-in_err-n-clause-front
returns-in_err-n-clause-front g c =
    let i = c.loop-done.invariant in
    let name = c.args.name.now in
    let e = c.in_err-n.ensures in
    let (n, (within, adds)) = e.adds_front name i.writes in
    let rest = to_end c.loop-done.done c.args.piece.now i.within in
    let front : HoldsFront (g.S.Shelf.held c.append.new.self) name c.args.piece.now =
    (c.loop-done.done + n, (rest-within c.loop-done.done n c.args.piece.now i.within within, holds-then _ _ name c.loop-done.done n c.args.piece.now i.so_far (rw rest at adds) (e.only name i.writes).0)) in
    search rules

pub returns-then-n-eq0-clause-front : goal.returns-then-n-eq0-clause-front
returns-then-n-eq0-clause-front g c =
    let i = c.loop-done.invariant in
    let name = c.args.name.now in
    let e = c.in_ok-n.ensures in
    let rest = to_end c.loop-done.done c.args.piece.now i.within in
    (c.loop-done.done + c.in_ok-n.n, (rest-within c.loop-done.done c.in_ok-n.n c.args.piece.now i.within e.within, holds-then _ _ name c.loop-done.done c.in_ok-n.n c.args.piece.now i.so_far (rw rest at (e.adds name i.writes)) (e.only name i.writes).0))
