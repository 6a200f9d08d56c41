use Rattle.std.proofs.Common.{◌∙◌, sym, refl, ap, subst, Some}
use Rattle.std.specs.Result.{result_ok}
use Rattle.brace_model.specs.FaultOrder.{with_earlier}
use Rattle.brace_model.specs.Value.{Worth}
use Rattle.brace_model.specs.Query.{deed_of, silent}
use Rattle.brace_code.specs.Codes.{gives}
use Rattle.brace_plan.specs.declared.answer.Answer.{Answer}
use Rattle.brace_plan.specs.inner.Walks.{scope_at, Adds}
use Rattle.brace_plan.proofs.AnswerLemmas.{adds-nothing, adds-fault}
use Rattle.brace_plan.proofs.walk.worth.Goals as goal

pub returns-in-Ok-clause-value : goal.returns-in-Ok-clause-value
returns-in-Ok-clause-value c =
    ap result_ok (sym c.in-Ok.is ∙ c.in_ok-v.ensures.value ∙ ap (gives c.args.code.now) (c.env_at.ensures.scope c.args.desk.now.drawer))

pub returns-in-Ok-clause-added : goal.returns-in-Ok-clause-added
returns-in-Ok-clause-added c =
    let here = scope_at c.args.scene.now c.args.seat.now c.args.desk.now.drawer.seed c.args.locals.now in
    subst (λ (w : Worth). Adds c.args.scene.now (deed_of here w (λ u. silent here)) c.args.answer.now c.args.answer.now)
    (sym c.in-Ok.is ∙ c.in_ok-v.ensures.value ∙ ap (gives c.args.code.now) (c.env_at.ensures.scope c.args.desk.now.drawer)) (adds-nothing c.args.scene.now here c.args.answer.now)

pub returns-in-Err-clause-value : goal.returns-in-Err-clause-value
returns-in-Err-clause-value c =
    ap result_ok (sym c.in-Err.is ∙ c.in_ok-v.ensures.value ∙ ap (gives c.args.code.now) (c.env_at.ensures.scope c.args.desk.now.drawer))

pub returns-in-Err-clause-added : goal.returns-in-Err-clause-added
returns-in-Err-clause-added c =
    let here = scope_at c.args.scene.now c.args.seat.now c.args.desk.now.drawer.seed c.args.locals.now in
    let last : Answer = record { said = c.args.answer.now.said; fault = Some c.with_earlier.result } in
    subst (λ (w : Worth). Adds c.args.scene.now (deed_of here w (λ u. silent here)) c.args.answer.now last)
    (sym c.in-Err.is ∙ c.in_ok-v.ensures.value ∙ ap (gives c.args.code.now) (c.env_at.ensures.scope c.args.desk.now.drawer))
    (adds-fault c.args.scene.now here c.in-Err.stop c.args.answer.now last refl
    (ap (λ f. Some f) (c.with_earlier.ensures ∙ ap (with_earlier c.args.answer.now.fault) (c.fault-fault.ensures c.args.desk.now.drawer.seed c.args.locals.now))))
