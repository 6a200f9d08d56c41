use Rattle.std.proofs.Common.{◌≡◌, ◌∙◌, ◌+◌, ◌++◌, ◌∷◌, [], sym, ap, subst, take, ℤ, List}
use Rattle.std.proofs.lemmas.List.{take_more}
use Rattle.brace_fold.specs.inner.Crowds.{AreGathered, IsGathered}
use Rattle.brace_fold.proofs.Crowdings.{gathered-more}
use Rattle.brace_fold.proofs.crowd.gather_all.Goals as goal

pub loop-column-preserved : goal.loop-column-preserved
loop-column-preserved c =
    let columns : List (List ℤ) = c.args.columns.now in
    let i = c.loop-column.column-index in
    let x = c.column-item.result in
    let out = c.in_ok-out.out in
    let is : IsGathered c.args.lanes.now x out = subst (λ (l : List ℤ). IsGathered c.args.lanes.now l out) c.as_slice.ensures c.in_ok-out.ensures in
    let next : take (i + 1) columns ≡ take i columns ++ x ∷ [] =
    take_more columns i x c.loop-column-test.true ∙ ap (λ (y : List ℤ). take i columns ++ y ∷ []) (sym c.column-item.is) in
    rw c.in_ok-push.ensures.items
    (subst (λ (l : List (List ℤ)). AreGathered c.args.lanes.now l (c.loop-column.outs.items ++ out ∷ [])) (sym next)
    (gathered-more c.args.lanes.now (take i columns) c.loop-column.outs.items x out c.loop-column.invariant is))
