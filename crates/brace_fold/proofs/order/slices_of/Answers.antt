use Rattle.std.proofs.Common.{◌≡◌, ◌∙◌, ◌<◌, ◌+◌, ◌-◌, ◌++◌, ap, arith, get_or, length, refl, rules, subst, sym, take}
use Rattle.std.specs.List.{range_with_len}
use Rattle.std.proofs.lemmas.List.{take_all}
use Rattle.brace_fold.specs.inner.Picks.{rows_along}
use Rattle.brace_fold.proofs.Pickings.{along-more, slice-new, slice-on}
use Rattle.brace_fold.proofs.order.slices_of.Goals.{then-row-to+else-len-most+in_ok-push, else-row-to}
use Rattle.brace_fold.proofs.order.slices_of.Goals as goal

pub loop-row-preserved : goal.loop-row-preserved
loop-row-preserved c =
    let rows = c.args.rows.now in
    let k = c.loop-row.row-index in
    let row = get_or rows k 0 in
    let all = c.loop-row.all.items in
    let from = c.loop-row.from in
    let to = c.loop-row.to in
    let new = c.if-row-to.all.items in
    let low : k < length rows = c.loop-row-test.true in
    let so_far = c.loop-row.invariant.so_far in
    let turn = c.loop-row.invariant.turn in
    elim c.if-row-to.branch [
      | then-row-to+else-len-most+in_ok-push w ↦ record {
        so_far = subst (λ n. rows_along new ++ range_with_len n (row + 1 - n)
            ≡ take (k + 1) rows) (sym w.from-is) (slice-new rows all new from to k row low
            refl so_far (ap (λ v. v.items) w.all-is ∙ w.in_ok-push.ensures.items));
        turn = omega (arith, w.from-is);
      }
      | else-row-to w ↦
          let same : row ≡ to = search rules in
          record {
            so_far = subst (λ n. rows_along new ++ range_with_len n (row + 1 - n)
                ≡ take (k + 1) rows) (sym w.from-is) (slice-on rows all new from to k row low
                refl so_far turn same (ap (λ v. v.items) w.all-is));
            turn = omega (arith, w.from-is, turn, same);
          }
    ]

pub returns : goal.returns
returns c =
    let all = c.loop-row.all.items in
    ap rows_along c.in_ok-push-2.ensures.items ∙ along-more all _
    ∙ c.loop-row.invariant.so_far
    ∙ take_all c.loop-row.row-index c.args.rows.now c.loop-row-test.false
