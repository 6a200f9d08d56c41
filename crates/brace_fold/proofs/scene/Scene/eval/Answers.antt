use Rattle.std.proofs.Common.{◌∙◌, ap, map}
use Rattle.brace_plan.proofs.WalkLemmas.{if_ok}
use Rattle.brace_fold.proofs.Evals.{worths-of}
use Rattle.brace_fold.proofs.scene.Scene.eval.Goals as goal

pub returns : goal.returns
returns c = if_ok c.eval_lanes.result _ _ (λ words h.
    worths-of c.args.self.now c.args.crowd.now c.frame-frame.result c.args.code.now words c.requires
    c.frame-frame.ensures.this c.frame-frame.ensures.outer c.frame-frame.ensures.inner
    (ap (map (λ v. v.now)) (c.frame-frame.ensures.locals ∙ c.deref-2.ensures.value) ∙ c.in_ok-locals.ensures ∙ c.deref.ensures.value) c.frame-frame.ensures.totals c.frame-frame.ensures.draws h) c.eval_lanes.ensures
