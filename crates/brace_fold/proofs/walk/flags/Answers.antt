use Rattle.std.proofs.Common.{◌≡◌, ◌∙◌, sym, rules}
use Rattle.brace_model.specs.declared.program.Ty.TheVariants as ty
use Rattle.brace_plan.proofs.WalkLemmas.{if_ok}
use Rattle.brace_fold.proofs.walk.flags.Goals as goal

pub returns-clause-flag : goal.returns-clause-flag
returns-clause-flag c =
    let flag : c.ty.result ≡ ty.Bool = search rules in
    if_ok c.eval.result _ _ (λ words h. sym c.ty.ensures ∙ flag) c.eval.ensures
