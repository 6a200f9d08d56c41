use Rattle.std.proofs.Common.{◌≡◌, ◌<◌, Some, false, get_or, length, refl, rules, slice_get, subst}
use Rattle.std.proofs.lemmas.List.{get_or_default, take_all}
use Rattle.std.proofs.lemmas.List.Elements.{All-more, All-nil}
use Rattle.std.proofs.lemmas.Option.{slice_get_read}
use Rattle.brace_fold.specs.inner.Crowds.{AreOfClass}
use Rattle.brace_fold.proofs.groups.are_of_class.Goals as goal

pub loop-row-init : goal.loop-row-init
loop-row-init c = λ none.
    All-nil (λ row. slice_get c.args.classes.now row ≡ Some c.args.class)

pub loop-row-preserved : goal.loop-row-preserved
loop-row-preserved c = λ none.
    let rows = c.args.rows.now in
    let classes = c.args.classes.now in
    let k = c.loop-row.row-index in
    let row = get_or rows k 0 in
    let was : c.loop-row.others ≡ false = search rules in
    let low : row < length classes = search rules in
    let same : get_or classes row 0 ≡ c.args.class = search rules in
    let here : slice_get classes row ≡ Some c.args.class =
    subst (λ n. slice_get classes row ≡ Some n) same (slice_get_read classes _ row
    (get_or classes row 0) refl low (get_or_default classes row 0 (get_or classes row 0) low)) in
    All-more (λ n. slice_get classes n ≡ Some c.args.class) rows k 0 c.loop-row-test.true (c.loop-row.invariant was) here

pub returns : goal.returns
returns c = λ all.
    let none : c.loop-row.others ≡ false = search rules in
    subst (AreOfClass c.args.classes.now c.args.class)
    (take_all c.loop-row.row-index c.args.rows.now c.loop-row-test.false)
    (c.loop-row.invariant none)
