use Rattle.std.proofs.Common.{rules, ◌≡◌, ◌+◌, ◌*◌, ℤ, pos, ap, get_or, to_z, of_z, w64}
use Rattle.std.proofs.lemmas.Int.{to_z-of_z}
use Rattle.brace_fold.specs.declared.cells.Spot.{Spot}
use Rattle.brace_fold.proofs.CellOrder.{in_four}
use Rattle.brace_fold.proofs.cells.rank_in_four.Goals as goal

pub returns : goal.returns
returns c =
    let spots = c.args.spots.now in
    let d : Spot = record { x = pos 0; y = pos 0; cell = pos 0; class = 0; place = 0 } in
    let a : ℤ = (get_or spots (c.args.at + 1) d).cell in
    let pair = c.args.at + 2 * c.from.result in
    let b : ℤ = (get_or spots pair d).cell in
    let first : to_z w64 (of_z w64 a) ≡ a = search (rules, to_z-of_z) in
    let second : to_z w64 (of_z w64 b) ≡ b = search (rules, to_z-of_z) in
    in_four spots c.args.cell c.requires.rise c.args.at d (to_z w64 (of_z w64 a))
    (to_z w64 (of_z w64 b)) (to_z w64 (of_z w64 c.args.cell)) c.requires.four
    (to_z-of_z w64 c.args.cell c.ranges.cell) c.requires.front c.requires.last first pair _
    (ap (λ n. c.args.at + 2 * n) c.from.ensures) second
    (ap (λ n. pair + n) c.from-2.ensures)
