use Rattle.std.proofs.Common.{◌≡◌, ◌<◌, ◌^◌, length, pos, refl, arith, rules, FitsSigned, w64, to_z, of_z}
use Rattle.std.specs.Prelude.{replicate}
use Rattle.std.proofs.lemmas.Int.{ints}
use Rattle.std.proofs.lemmas.List.{get_or-replicate, length-replicate}
use Rattle.brace_fold.proofs.Sayings.{sum_more}
use Rattle.brace_fold.proofs.spoken.sum_same.Goals as goal

pub loop-preserved : goal.loop-preserved
loop-preserved c =
    let i = c.loop.counter in
    let few : i < 2 ^ 64 = search rules in
    let word = to_z w64 (of_z w64 c.args.word) in
    let kept : word ≡ c.args.word = search rules in
    let fits : FitsSigned w64 word = search rules in
    let words = replicate c.args.count word in
    let less : i < c.args.count = omega arith in
    let low : i < length words = omega (arith, length-replicate c.args.count word, less) in
    let more = sum_more c.args.ty words i _ _ c.requires low refl refl in
    let here = get_or-replicate c.args.count i word (pos 0) less in
    let sum = c.loop.invariant.sum in
    let bound = c.loop.invariant.bound in
    record {
      sum = omega (arith, ints, few, fits, more, here, kept, sum, bound, c.from-total.ensures);
      bound = omega (arith, ints, few, fits, kept, bound, c.from-total.ensures);
    }
