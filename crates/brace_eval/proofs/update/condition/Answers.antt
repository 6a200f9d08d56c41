use Rattle.std.proofs.Common.{sym, subst, [], ◌∷◌, Option, false}
use Rattle.brace_model.specs.declared.program.Expr.{Expr}
use Rattle.brace_model.specs.declared.program.Value.TheVariants.{Flag}
use Rattle.brace_model.specs.Next.{condition_in}
use Rattle.brace_model.specs.Scopes.{scope_of}
use Rattle.brace_eval.specs.inner.Updates.{Meets}
use Rattle.brace_eval.proofs.UpdateLemmas.{meets-ok}
use Rattle.brace_eval.proofs.update.condition.Goals as goal

pub returns-in-None-clause-met : goal.returns-in-None-clause-met
returns-in-None-clause-met c =
    subst (λ (o : Option Expr). Meets (condition_in (scope_of c.args.env.now c.args.drawer.now) o ∷ []) c.args.first.now c.args.first.now) (sym c.in-None.is)
    (meets-ok (Flag false) c.args.first.now)
