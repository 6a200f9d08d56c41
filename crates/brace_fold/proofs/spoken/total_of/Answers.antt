use Rattle.std.proofs.Common.{◌≡◌, ◌∙◌, ◌<◌, sym, ap, arith, rules, w64, to_z, of_z}
use Rattle.std.specs.Int.{w128}
use Rattle.brace_model.specs.Value.{typed}
use Rattle.brace_code.specs.Lanes.{words_of}
use Rattle.brace_fold.proofs.Sayings.{total-more}
use Rattle.brace_fold.proofs.spoken.total_of.Goals as goal

pub loop-k-preserved : goal.loop-k-preserved
loop-k-preserved c =
    let words = words_of c.args.count c.args.words in
    let before = to_z w128 c.loop-k.total-bits in
    let low : c.loop-k.k < c.args.count = omega arith in
    let (within, read) = c.in_ok-word.ensures c.args.count low in
    let word : to_z w64 (of_z w64 c.in_ok-word.word) ≡ c.in_ok-word.word = search rules in
    let total : to_z w128 (of_z w128 c.in_ok-total.total) ≡ c.in_ok-total.total = search rules in
    total ∙ total-more c.args.comb c.args.ty words c.loop-k.k before c.in_ok-total.total
    c.typed.result within (c.typed.ensures ∙ ap (typed c.args.ty) (word ∙ sym read))
    c.loop-k.invariant c.in_ok-total.ensures.1
