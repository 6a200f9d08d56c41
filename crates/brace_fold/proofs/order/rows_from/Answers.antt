use Rattle.std.proofs.Common.{◌≡◌, ◌∙◌, ◌+◌, ◌++◌, ◌∷◌, [], suc, sym, ap, ap₂, List, ℕ, arith, rules}
use Rattle.std.specs.List.{range_with_len}
use Rattle.brace_num.proofs.Rows.{row_more}
use Rattle.brace_fold.proofs.order.rows_from.Goals as goal

pub loop-k-preserved : goal.loop-k-preserved
loop-k-preserved c =
    let first = c.args.first in
    let k = c.loop-k.k in
    let at : c.in-Some.at ≡ first + k = search rules in
    let same : c.in-Ok.row ≡ c.in-Some.at = search rules in
    let more : suc k ≡ k + 1 = omega arith in
    record {
      so_far = c.push_reserved.ensures.items
          ∙ ap₂ (λ (l : List ℕ) n. l ++ n ∷ []) c.loop-k.invariant.so_far (same ∙ at)
          ∙ sym (row_more first k) ∙ ap (range_with_len first) more;
      room = search rules;
    }

pub returns : goal.returns
returns c =
    let end : c.loop-k.k ≡ c.args.count = search rules in
    c.loop-k.invariant.so_far ∙ ap (range_with_len c.args.first) end
