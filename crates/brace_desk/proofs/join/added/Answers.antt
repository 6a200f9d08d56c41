use Rattle.std.proofs.Common.{◌∙◌, sym, inl, inr}
use Rattle.std.specs.Vec.Iter.{into_iter_items}
use Rattle.brace_desk.proofs.JoinLemmas.{none_added}
use Rattle.brace_desk.proofs.join.added.Goals as goal
use Rattle.brace_num.proofs.Lists.{none_long}

pub returns : goal.returns
returns c =
    let at = c.loop-world in
    let xs = into_iter_items at.world-iterator.a in
    let ys = into_iter_items at.world-iterator.b in
    sym (none_added at.all.items xs ys (elim c.in-None.ensures.steps [
      | inl h ↦ inl (none_long xs (sym at.invariant.first_has ∙ h.1.0))
      | inr h ↦ inr (none_long ys (sym at.invariant.other_has ∙ h.1.0))
    ])) ∙ at.invariant.so_far
