use Rattle.std.proofs.Common.{◌∙◌, ap, map}
use Rattle.brace_fold.proofs.order.Moved.agents.Goals as goal

pub returns : goal.returns
returns c =
    let lent = ap (map (λ v. v.now)) c.deref-2.ensures.value ∙ c.in_ok-states.ensures
    ∙ c.deref.ensures.value in
    c.in_ok-agents.ensures ∙ c.as_columns.ensures.rows lent c.args.program.now
