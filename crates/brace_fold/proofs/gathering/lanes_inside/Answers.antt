use Rattle.std.proofs.Common.{◌≡◌, ◌∙◌, ap, sym, ⊎_elim}
use Rattle.brace_fold.specs.declared.crowd.Depth.TheVariants.{Outside, Once, Twice}
use Rattle.brace_fold.specs.declared.gathering.Entered.{Entered}
use Rattle.brace_fold.specs.inner.Crowds.{lanes_inside}
use Rattle.brace_fold.proofs.Enterings.{cut_inside}
use Rattle.brace_fold.proofs.gathering.lanes_inside.Goals as goal

pub returns-in-Outside : goal.returns-in-Outside
returns-in-Outside c =
    let lanes : Entered = c.args.lanes in
    let cut =
    cut_inside lanes (record lanes { near = c.truncate.new.self }) c.truncate.ensures.items in
    c.of.ensures ∙ cut Outside ∙ ap (λ d. lanes_inside d lanes) (sym c.in-Outside.is)

pub returns-in-Once : goal.returns-in-Once
returns-in-Once c =
    let lanes : Entered = c.args.lanes in
    let cut =
    cut_inside lanes (record lanes { near = c.truncate.new.self }) c.truncate.ensures.items in
    ⊎_elim
    (λ (is : c.args.depth ≡ Once). c.of-in-Once.ensures ∙ cut Once
    ∙ ap (λ d. lanes_inside d lanes) (sym is))
    (λ (is : c.args.depth ≡ Twice). c.of-in-Once.ensures ∙ cut Twice
    ∙ ap (λ d. lanes_inside d lanes) (sym is))
    c.in-Once.is
