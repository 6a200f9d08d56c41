use Rattle.std.proofs.Common.{◌≡◌, ◌∙◌, ◌<◌, sym, ap, subst, append-nil, get_or, length, pos, rules, true, false, w64, to_z, of_z}
use Rattle.brace_code.specs.Columns.{side}
use Rattle.brace_fold.specs.inner.Crowds.{AreTaken}
use Rattle.brace_fold.proofs.Crowdings.{taken-more}
use Rattle.brace_fold.proofs.crowd.take_between.Goals as goal
use Rattle.brace_fold.proofs.crowd.take_between.Goals.{then-is_on_side+in_ok-push, else-is_on_side}

pub loop-k-preserved : goal.loop-k-preserved
loop-k-preserved c = λ taken lanes d long.
    let words = c.args.words.now in
    let k = c.loop-k.k in
    let low : k < length words = search rules in
    let same : to_z w64 (of_z w64 (get_or words k (pos 0))) ≡ get_or words k (pos 0) =
    search rules in
    let on : side c.args.set (get_or words k (pos 0)) ≡ c.is_on_side.result =
    sym (c.is_on_side.ensures ∙ ap (side c.args.set) same) in
    elim c.if-is_on_side.branch [
      | then-is_on_side+in_ok-push w ↦ taken-more c.args.set lanes _ c.loop-k.numbers.items
          c.if-is_on_side.numbers.items words k d true low long
          (on ∙ w.if-is_on_side.true) (ap (λ v. v.items) w.numbers-is ∙ w.in_ok-push.ensures.items)
          (c.loop-k.invariant taken lanes d long)
      | else-is_on_side w ↦ taken-more c.args.set lanes _ c.loop-k.numbers.items
          c.if-is_on_side.numbers.items words k d false low long
          (on ∙ w.if-is_on_side.false)
          (ap (λ v. v.items) w.numbers-is ∙ sym (append-nil c.loop-k.numbers.items))
          (c.loop-k.invariant taken lanes d long)
    ]

pub returns : goal.returns
returns c = λ taken.
    let end : c.loop-k.k ≡ c.args.next = search rules in
    subst (λ n. AreTaken c.args.set c.args.words.now n c.loop-k.numbers.items) end
    (c.loop-k.invariant taken)
