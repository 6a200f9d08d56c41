use Rattle.std.proofs.Common.{rules, ◌≡◌, pos, ◌<ℤ◌, true, subst, get_or, to_z, of_z, w64}
use Rattle.std.specs.Prelude.{int_le}
use Rattle.std.proofs.lemmas.Int.{to_z-of_z}
use Rattle.brace_fold.specs.declared.cells.Spot.{Spot}
use Rattle.brace_fold.proofs.CellOrder.{rest_of_read}
use Rattle.brace_fold.proofs.cells.rank_from.Goals as goal

pub returns-then-cell-spots : goal.returns-then-cell-spots
returns-then-cell-spots c =
    let same : to_z w64 (of_z w64 c.args.cell) ≡ c.args.cell =
    to_z-of_z w64 c.args.cell c.ranges.cell in
    let d : Spot = record { x = pos 0; y = pos 0; cell = pos 0; class = 0; place = 0 } in
    let h : int_le (to_z w64 (of_z w64 c.args.cell))
    (to_z w64 (of_z w64 (get_or c.args.spots.now c.loop-at.at d).cell)) ≡ true =
    c.if-cell-spots.true in
    record {
      within = c.loop-at.invariant.within;
      front = λ k e low. subst (λ n. (get_or c.args.spots.now k e).cell <ℤ n) same
          (c.loop-at.invariant.front k e low);
      rest = rest_of_read c.args.spots.now c.args.cell c.requires.rise c.loop-at.at d _ _
          c.loop-at-test.true (search (rules, to_z-of_z)) same h;
    }
