use Rattle.std.proofs.Common.{◌≡◌, ◌∙◌, ◌+◌, ◌++◌, ◌∷◌, [], sym, ap, subst, map, take, zip, List, arith}
use Rattle.brace_model.specs.declared.program.State.{State}
use Rattle.brace_model.specs.declared.program.Value.{Value}
use Rattle.brace_model.specs.Value.{Worth}
use Rattle.brace_model.specs.Next.{values_of, ruled}
use Rattle.brace_model.specs.Scopes.{scope_of}
use Rattle.brace_eval.specs.inner.Updates.{Meets, with_one}
use Rattle.brace_eval.proofs.UpdateLemmas.{zip-more, zip-all, values-more, meets-then}
use Rattle.brace_eval.proofs.update.ruled_states.Goals as goal

pub loop-i-preserved : goal.loop-i-preserved
loop-i-preserved c =
    let f : State × Value → Worth = λ p. ruled (scope_of c.args.env.now c.args.drawer.now) p.0.rule p.1 in
    let i = c.loop-i.i in
    let ws = map f (take i (zip c.args.states.now c.args.values.now)) in
    let w = c.ruled-outcome.result in
    let more : map f (take (i + 1) (zip c.args.states.now c.args.values.now)) ≡ ws ++ w ∷ [] =
    zip-more f c.args.states.now c.args.values.now i c.index-states-i.result _ (omega arith) (omega arith)
    ∙ ap (λ (x : Worth). ws ++ x ∷ []) (sym (rw c.loop-i.invariant.seed at c.ruled-outcome.ensures.value)) in
    record {
      seed = c.ruled-outcome.ensures.seed ∙ c.loop-i.invariant.seed;
      values = ap values_of more ∙ values-more ws w _ c.kept.ensures.value
          ∙ ap (λ (l : List Value). with_one l c.kept.result) c.loop-i.invariant.values ∙ sym c.in_ok-add.ensures;
      met = subst (λ (xs : List Worth). Meets xs c.args.first.now c.kept.new.first) (sym more)
          (meets-then ws (w ∷ []) c.args.first.now c.loop-i.first c.kept.new.first c.loop-i.invariant.met c.kept.ensures.met);
    }

pub returns-clause-ruled : goal.returns-clause-ruled
returns-clause-ruled c =
    ap values_of (sym (zip-all _ c.args.states.now c.args.values.now c.loop-i.i (omega arith))) ∙ c.loop-i.invariant.values

pub returns-clause-met : goal.returns-clause-met
returns-clause-met c =
    subst (λ (ws : List Worth). Meets ws c.args.first.now c.loop-i.first) (zip-all _ c.args.states.now c.args.values.now c.loop-i.i (omega arith)) c.loop-i.invariant.met
