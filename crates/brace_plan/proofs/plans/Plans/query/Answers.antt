use Rattle.std.proofs.Common.{sym, subst, List}
use Rattle.brace_plan.specs.declared.answer.Said.{Said}
use Rattle.brace_plan.specs.Answers.{ArePlaced}
use Rattle.brace_plan.proofs.QueryLemmas.{some-agent}
use Rattle.brace_plan.proofs.plans.Plans.query.Goals as goal

pub by_id-requires : goal.by_id-requires
by_id-requires c =
    subst (λ (l : List Said). ArePlaced c.args.agents.now l) (sym c.as_slice.ensures.value)
    (c.in_ok-ask.ensures.answer (some-agent c.args.agents.now c.args.a c.requires.place)).placed
