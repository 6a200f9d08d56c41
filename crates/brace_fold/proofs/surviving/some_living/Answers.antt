use Rattle.std.proofs.Common.{◌≡◌, ◌∙◌, ap, false, rules, true}
use Rattle.brace_fold.specs.inner.Rulings.{is_set}
use Rattle.brace_fold.proofs.Survivings.{left-dead, left-living}
use Rattle.brace_fold.proofs.surviving.some_living.Goals.{then-not-is_set+in_ok-push, else-not-is_set}
use Rattle.brace_fold.proofs.surviving.some_living.Goals as goal

pub loop-row-preserved : goal.loop-row-preserved
loop-row-preserved c =
    let row = c.loop-row.row in
    let die = c.args.die.now in
    elim c.if-not-is_set.branch [
      | then-not-is_set+in_ok-push w ↦
          let lives : is_set die row ≡ false = search rules in
          left-living die row c.loop-row.rows.items _ c.loop-row.invariant lives
          (ap (λ v. v.items) w.rows-is ∙ w.in_ok-push.ensures.items)
      | else-not-is_set w ↦
          let dies : is_set die row ≡ true = search rules in
          left-dead die row c.loop-row.rows.items _ c.loop-row.invariant dies
          (ap (λ v. v.items) w.rows-is)
    ]
