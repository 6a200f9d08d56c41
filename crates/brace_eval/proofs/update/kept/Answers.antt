use Rattle.std.proofs.Common.{sym, subst, [], ◌∷◌, Some, Err}
use Rattle.brace_model.specs.declared.fault.Stop.{Stop}
use Rattle.brace_model.specs.Value.{Worth}
use Rattle.brace_eval.specs.inner.Updates.{Meets}
use Rattle.brace_eval.proofs.UpdateLemmas.{meets-ok, meets-err}
use Rattle.brace_eval.proofs.update.kept.Goals as goal

pub returns-in-Ok-clause-met : goal.returns-in-Ok-clause-met
returns-in-Ok-clause-met c =
    subst (λ (o : Worth). Meets (o ∷ []) c.args.first.now c.args.first.now) (sym c.in-Ok.is) (meets-ok c.in-Ok.v c.args.first.now)

pub returns-in-Err-clause-met : goal.returns-in-Err-clause-met
returns-in-Err-clause-met c =
    subst (λ (o : Worth). Meets (o ∷ []) c.args.first.now (Some c.with_stop.result)) (sym c.in-Err.is)
    (subst (λ (s : Stop). Meets (Err c.in-Err.stop ∷ []) c.args.first.now (Some s)) (sym c.with_stop.ensures) (meets-err c.in-Err.stop c.args.first.now))
