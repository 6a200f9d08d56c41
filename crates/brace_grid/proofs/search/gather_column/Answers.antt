use Rattle.std.proofs.Common.{rules, ℤ, pos, ◌+ℤ◌, arith, refl, sym, to_z, of_z}
use Rattle.std.specs.Int.{w64}
use Rattle.std.proofs.lemmas.Int.{to_z-of_z}
use Rattle.std.proofs.lemmas.Result.{on_ok_weaker}
use Rattle.brace_grid.specs.inner.Search.{IsPlace}
use Rattle.brace_grid.proofs.Places.{place_at_same, some_place}
use Rattle.brace_grid.proofs.Columns.{column_found, column_len}
use Rattle.brace_grid.proofs.search.gather_column.Goals as goal

pub returns : goal.returns
returns g c =
    let spots = c.args.layout.now.spots in
    let column = c.args.column in
    let block = c.args.block.now in
    let column_same = to_z-of_z w64 column c.ranges.column in
    let from = place_at_same spots (to_z w64 (of_z w64 column)) block.south _ _ _ _ refl (search (rules, to_z-of_z)) refl c.place-start.ensures.place in
    let start : IsPlace spots column block.south c.place-start.result = place_at_same spots column block.south _ _ _ _ column_same refl refl from in
    let (n, end) = some_place spots c.requires.laid.rise column (block.north +ℤ pos 1) in
    let to = place_at_same spots (to_z w64 (of_z w64 column)) (to_z w64 (of_z w64 block.north) +ℤ pos 1) _ _ _ _ (sym column_same) (search (rules, to_z-of_z)) refl end in
    record {
      found = on_ok_weaker c.gather.result (column_found spots column block.south block.north c.place-start.result n start end c.args.area.now c.args.out.now.items c.gather.new.out.items) (c.gather.ensures.found block.south n from to);
      steps = omega (arith, column_len spots column block.south block.north c.place-start.result n start end, c.gather.ensures.steps block.south n from to);
    }
