use Rattle.std.proofs.Common.{◌<◌, ◌^◌, pos, slice_index_or, refl, arith, rules, FitsSigned, w64}
use Rattle.std.proofs.lemmas.Int.{ints}
use Rattle.brace_fold.proofs.Sayings.{sum_more}
use Rattle.brace_fold.proofs.spoken.sum_of.Goals as goal

pub loop-word-preserved : goal.loop-word-preserved
loop-word-preserved c =
    let i = c.loop-word.word-index in
    let few : i < 2 ^ 64 = search rules in
    let words = c.args.words.now in
    let fits : FitsSigned w64 (slice_index_or words i (pos 0)) = search rules in
    let more = sum_more c.args.ty words i _ _ c.requires c.loop-word-test.true refl refl in
    let sum = c.loop-word.invariant.sum in
    let bound = c.loop-word.invariant.bound in
    record {
      sum = omega (arith, ints, few, fits, more, sum, bound, c.from-total.ensures);
      bound = omega (arith, ints, few, fits, bound, c.from-total.ensures);
    }
