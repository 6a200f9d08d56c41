use Rattle.std.proofs.Common.{◌∙◌, ◌<◌, ◌+◌, length, take, arith}
use Rattle.brace_syntax.proofs.DepthLemmas.{opened_more, counted_more, tested, few, shallow_more, deep_at}
use Rattle.brace_syntax.proofs.scan.first_deep.Goals as goal

pub returns-then-too_deep : goal.returns-then-too_deep
returns-then-too_deep c =
    let l : c.loop-tok.tok-index < length c.args.toks.now = omega arith in
    let p = opened_more _ _ _ _ _ l c.loop-tok.invariant.opened_now c.opened_by-opened.ensures in
    let q = counted_more _ _ _ _ _ l c.loop-tok.invariant.operators_now c.counted_by-operators.ensures in
    deep_at _ _ _ l (tested (take (c.loop-tok.tok-index + 1) c.args.toks.now) _ _ _ p q c.too_deep.ensures ∙ c.if-too_deep.true) c.loop-tok.invariant.shallow

pub loop-tok-preserved : goal.loop-tok-preserved
loop-tok-preserved c =
    let l : c.loop-tok.tok-index < length c.args.toks.now = omega arith in
    let p = opened_more _ _ _ _ _ l c.loop-tok.invariant.opened_now c.opened_by-opened.ensures in
    let q = counted_more _ _ _ _ _ l c.loop-tok.invariant.operators_now c.counted_by-operators.ensures in
    let small = few _ _ _ c.too_deep.ensures c.if-too_deep.false in
    record {
      opened_now = p;
      operators_now = q;
      few_opened = small.0;
      few_operators = small.1;
      shallow = shallow_more _ _ c.loop-tok.invariant.shallow (tested (take (c.loop-tok.tok-index + 1) c.args.toks.now) _ _ _ p q c.too_deep.ensures ∙ c.if-too_deep.false);
    }
