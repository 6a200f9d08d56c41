use Rattle.std.proofs.Common.{◌∙◌, sym, ap, ◌++◌, ◌∷◌, [], List, ℕ}
use Rattle.brace_plan.proofs.NearLemmas.{range-more}
use Rattle.brace_plan.proofs.near.every.Goals as goal

pub loop-place-preserved : goal.loop-place-preserved
loop-place-preserved c =
    c.in_ok-push.ensures.items ∙ ap (λ (l : List ℕ). l ++ c.loop-place.place ∷ []) c.loop-place.invariant ∙ sym (range-more c.loop-place.place)
