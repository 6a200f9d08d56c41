use Rattle.std.proofs.Common.{◌≡◌, ◌<◌, Some, arith, get_or, length, rules, slice_get}
use Rattle.std.proofs.lemmas.List.Elements.{All-more, All-nil}
use Rattle.brace_fold.proofs.groups.class_end.Goals as goal

pub loop-count-init : goal.loop-count-init
loop-count-init c = record {
  within = omega arith;
  of_class = All-nil (λ row. slice_get c.args.classes.now row ≡ Some c.args.class);
}

pub loop-count-preserved : goal.loop-count-preserved
loop-count-preserved c =
    let rows = c.args.rows.now in
    let count = c.loop-count.count in
    let low : count < length rows = search rules in
    let here : slice_get c.args.classes.now (get_or rows count 0) ≡ Some c.args.class =
    search rules in
    record {
      within = omega (arith, low);
      of_class = All-more (λ n. slice_get c.args.classes.now n ≡ Some c.args.class) rows count 0
          low c.loop-count.invariant.of_class here;
    }
