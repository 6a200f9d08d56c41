use Rattle.std.proofs.Common.{◌∙◌, Result, Ok, Err, IfOk}
use Rattle.std.proofs.lemmas.Result.{IfOk-weaker}
use Rattle.brace_watch.proofs.Boxes.{boxes_figured, whole_figured}
use Rattle.brace_watch.proofs.count.figures.Goals as goal

-- two facts of an answer give a third
both_so : {X E : Type 0} (r : Result X E) (P Q R : X → Type 0) → ((x : X) → P x → Q x → R x)
    → IfOk r P → IfOk r Q → IfOk r R
both_so (Ok x) P Q R f p q = f x p q
both_so (Err e) P Q R f p q = tt

pub returns-clause-whole : goal.returns-clause-whole
returns-clause-whole c =
    both_so c.figures_of.result _ _ _
    (λ f each join. whole_figured c.args.program.now c.args.watch.now c.args.cuts.now
    c.requires.watch c.args.agents.now _ _ _ (c.deref_mut.ensures.value ∙ c.in_ok-boxes.ensures)
    each join)
    c.figures_of.ensures.boxes c.figures_of.ensures.joined

pub returns-clause-boxes : goal.returns-clause-boxes
returns-clause-boxes c =
    IfOk-weaker c.figures_of.result _ _
    (λ f each. boxes_figured c.args.program.now c.args.watch.now c.args.cuts.now c.requires.watch
    c.args.agents.now _ _ (c.deref_mut.ensures.value ∙ c.in_ok-boxes.ensures) each)
    c.figures_of.ensures.boxes
