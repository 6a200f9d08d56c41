use Rattle.std.proofs.Common.{◌∙◌, ap, map}
use Rattle.brace_fold.proofs.order.Moved.picked.Goals as goal

pub returns : goal.returns
returns c agents is =
    let lent = ap (map (λ v. v.now)) c.deref-2.ensures.value ∙ c.in_ok-states.ensures
    ∙ c.deref.ensures.value in
    c.in_ok-moved.ensures.rows agents (c.as_columns.ensures.are lent agents is)
