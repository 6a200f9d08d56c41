use Rattle.std.proofs.Common.{◌≡◌, ◌∙◌, ◌≤◌, ap, arith, length, rules, subst, take}
use Rattle.std.proofs.lemmas.List.{length-take, take-take}
use Rattle.brace_fold.specs.inner.Crowds.{AreOfClass}
use Rattle.brace_fold.proofs.groups.first_group.Goals as goal

pub returns-clause-of_class : goal.returns-clause-of_class
returns-clause-of_class c =
    let all = c.args.rows.now in
    let most = c.split_at.result.0.now in
    let m = c.min.result in
    let count = c.class_end-count.result in
    let is : most ≡ take m all = search rules in
    let low : count ≤ m =
    omega (arith, ap length is, length-take m all, c.class_end-count.ensures.within) in
    let cut : take count all ≡ c.split_at-2.result.0.now = search rules in
    let part : take count most ≡ c.split_at-2.result.0.now =
    ap (take count) is ∙ take-take count m all low ∙ cut in
    subst (AreOfClass c.args.classes.now c.in-Some-item_at.class) part
    c.class_end-count.ensures.of_class
