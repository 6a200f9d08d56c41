use Rattle.std.proofs.Common.{◌<◌, ◌^◌, length, map, pos, get_or, slice_index_or, refl, arith, rules, FitsSigned, w64, ℕ, ℤ}
use Rattle.std.proofs.lemmas.Int.{ints}
use Rattle.std.proofs.lemmas.List.{get_or-map, length-map}
use Rattle.brace_fold.proofs.Sayings.{sum_more}
use Rattle.brace_fold.proofs.spoken.sum_at.Goals as goal

pub loop-row-preserved : goal.loop-row-preserved
loop-row-preserved c =
    let i = c.loop-row.row-index in
    let few : i < 2 ^ 64 = search rules in
    let rows = c.args.rows.now in
    let at : ℕ → ℤ = λ row. slice_index_or c.args.column.now row (pos 0) in
    let fits : FitsSigned w64 (at (get_or rows i 0)) = search rules in
    let low : i < length (map at rows) = omega (arith, length-map rows at, c.loop-row-test.true) in
    let more = sum_more c.args.ty (map at rows) i _ _ c.requires.plain low refl refl in
    let here = get_or-map at rows i 0 (pos 0) c.loop-row-test.true in
    let sum = c.loop-row.invariant.sum in
    let bound = c.loop-row.invariant.bound in
    record {
      sum = omega (arith, ints, few, fits, more, here, sum, bound, c.from-total.ensures);
      bound = omega (arith, ints, few, fits, bound, c.from-total.ensures);
    }
