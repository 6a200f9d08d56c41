use Rattle.std.proofs.Common.{◌∙◌, sym, map}
use Rattle.brace_plan.proofs.WalkLemmas.{if_ok}
use Rattle.brace_model.specs.declared.world.Agent.{Agent}
use Rattle.brace_fold.proofs.Drawings.{mapped}
use denote.Ref.{Bor}
use Rattle.brace_fold.proofs.drawn.drawn_for.Goals as goal

pub returns : goal.returns
returns c = if_ok c.drawn_of.result _ _ (λ all drawn.
    drawn (map (λ (r : Bor Agent). r.now) c.args.rows.now)
    (c.deref.ensures.value ∙ c.in_ok-ids.ensures ∙ sym
    (mapped (λ (r : Bor Agent). r.now) (λ (a : Agent). a.id) c.args.rows.now)))
    c.drawn_of.ensures
