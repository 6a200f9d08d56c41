use Rattle.std.proofs.Common.{◌≡◌, ◌∙◌, subst, ℕ, List}
use Rattle.std.specs.List.{range_with_len}
use Rattle.brace_fold.specs.Rows.{IsPicked}
use Rattle.brace_fold.proofs.arranged.Arranged.rest.Goals as goal

pub returns : goal.returns
returns c =
    let rows : c.deref-4.result.now ≡ range_with_len c.args.from c.args.count =
    c.deref-4.ensures.value ∙ c.in_ok-rows.ensures in
    subst (IsPicked c.in_ok-places.places.items c.args.self.now.order.items) rows
    (subst (λ (l : List ℕ). IsPicked c.in_ok-places.places.items l c.deref-4.result.now)
    c.deref-2.ensures.value c.in_ok-places.ensures)
