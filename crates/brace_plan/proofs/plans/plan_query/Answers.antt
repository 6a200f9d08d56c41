use Rattle.std.proofs.Common.{◌∙◌, ap, ap₂, None, false}
use Rattle.brace_model.specs.declared.program.Who.TheVariants.{Outer}
use Rattle.brace_plan.specs.Narrowing.{loops_of}
use Rattle.brace_plan.proofs.Whole.{is_plan}
use Rattle.brace_plan.proofs.plans.plan_query.Goals as goal

pub returns : goal.returns
returns c =
    is_plan c.args.program.now c.args.number c.args.class.now _ _ c.requires.lawful c.requires.class
    (ap₂ (λ cs known. record { classes = cs; own = c.args.number; outer_class = None; inner_class = None; in_rule = false; known = known }) c.as_slice.ensures c.in_ok-constants.ensures)
    c.in_ok-count.ensures c.in_ok-actions.ensures.actions
    (c.in_ok-actions.ensures.told ∙ ap (λ cs. loops_of cs Outer c.args.class.now.query) c.as_slice.ensures)
