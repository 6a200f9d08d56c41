use Rattle.std.proofs.Common.{rules, ◌≡◌, ◌+◌, pos, ◌<ℤ◌, arith, subst, get_or, sym, to_z, of_z, w64}
use Rattle.std.proofs.lemmas.Int.{to_z-of_z}
use Rattle.brace_fold.specs.declared.cells.Spot.{Spot}
use Rattle.brace_fold.proofs.CellOrder.{last_read, passed_read}
use Rattle.brace_fold.proofs.cells.rank.Goals as goal

pub rank_in_four-requires-clause-last : goal.rank_in_four-requires-clause-last
rank_in_four-requires-clause-last c =
    let d : Spot = record { x = pos 0; y = pos 0; cell = pos 0; class = 0; place = 0 } in
    last_read c.args.spots.now (c.loop-at.at + 3) d _ _ (omega (arith, c.loop-at-test.true))
    (search (rules, to_z-of_z)) c.if-cell-spots.true

pub loop-at-preserved : goal.loop-at-preserved
loop-at-preserved c =
    let same : to_z w64 (of_z w64 c.args.cell) ≡ c.args.cell =
    to_z-of_z w64 c.args.cell c.ranges.cell in
    let d : Spot = record { x = pos 0; y = pos 0; cell = pos 0; class = 0; place = 0 } in
    record {
      within = omega (arith, c.loop-at-test.true);
      front = λ k e low. subst (λ n. (get_or c.args.spots.now k e).cell <ℤ n) (sym same)
          (passed_read c.args.spots.now c.args.cell c.requires (c.loop-at.at + 3) d _ _
          (omega (arith, c.loop-at-test.true)) (search (rules, to_z-of_z)) same
          c.if-cell-spots.false k e (omega (arith, low)));
    }
