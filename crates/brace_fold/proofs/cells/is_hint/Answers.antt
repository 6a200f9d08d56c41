use Rattle.std.proofs.Common.{rules, ◌≡◌, ℤ, pos, arith, get_or, to_z, of_z, w64}
use Rattle.std.proofs.lemmas.Int.{to_z-of_z}
use Rattle.brace_fold.specs.declared.cells.Spot.{Spot}
use Rattle.brace_fold.proofs.CellOrder.{front_of_read}
use Rattle.brace_fold.proofs.cells.is_hint.Goals as goal

pub returns-then-last-spots-clause-front : goal.returns-then-last-spots-clause-front
returns-then-last-spots-clause-front c k d h low =
    let e : Spot = record { x = pos 0; y = pos 0; cell = pos 0; class = 0; place = 0 } in
    let a : ℤ = to_z w64 (of_z w64 (get_or c.args.spots.now c.in-Some.last e).cell) in
    let kept : a ≡ (get_or c.args.spots.now c.in-Some.last e).cell = search (rules, to_z-of_z) in
    front_of_read c.args.spots.now c.args.cell c.requires c.in-Some.last e a
    (to_z w64 (of_z w64 c.args.cell))
    c.if-last-spots.true kept (to_z-of_z w64 c.args.cell c.ranges.cell) h k d
    (omega (arith, c.in-Some.ensures))
