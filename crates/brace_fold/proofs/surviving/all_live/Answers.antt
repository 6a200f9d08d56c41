use Rattle.std.proofs.Common.{◌≡◌, ◌∙◌, ◌+◌, ◌++◌, ◌∷◌, [], ap, arith, false, rules, suc, sym}
use Rattle.std.specs.List.{range_with_len}
use Rattle.brace_num.proofs.Rows.{row_more}
use Rattle.brace_fold.specs.inner.Rulings.{is_set}
use Rattle.brace_fold.proofs.Survivings.{left-living}
use Rattle.brace_fold.proofs.surviving.all_live.Goals as goal

pub loop-row-preserved : goal.loop-row-preserved
loop-row-preserved c =
    let row = c.loop-row.row in
    let die = c.args.die.now in
    let lives : is_set die row ≡ false = search rules in
    let next : suc row ≡ row + 1 = omega arith in
    let first : 0 + row ≡ row = omega arith in
    left-living die row (range_with_len 0 row) _ c.loop-row.invariant lives
    (ap (range_with_len 0) (sym next) ∙ row_more 0 row
    ∙ ap (λ n. range_with_len 0 row ++ n ∷ []) first)
