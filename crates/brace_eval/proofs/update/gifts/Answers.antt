use Rattle.std.proofs.Common.{◌≡◌, ◌∙◌, ◌+◌, ◌++◌, ◌∷◌, [], sym, ap, subst, map, take, List, ℕ}
use Rattle.std.proofs.lemmas.List.{take_all}
use Rattle.brace_model.specs.declared.program.Gift.{Gift}
use Rattle.brace_model.specs.declared.program.Value.{Value}
use Rattle.brace_model.specs.Value.{Worth, value}
use Rattle.brace_model.specs.Next.{values_of}
use Rattle.brace_model.specs.Scopes.{scope_of}
use Rattle.brace_eval.specs.inner.Updates.{Meets, with_one}
use Rattle.brace_eval.proofs.DeedLemmas.{map-more}
use Rattle.brace_eval.proofs.UpdateLemmas.{values-more, meets-then, scope_from}
use Rattle.brace_eval.proofs.update.gifts.Goals as goal

pub loop-gift-preserved : goal.loop-gift-preserved
loop-gift-preserved c =
    let scope = scope_of c.args.env.now c.args.drawer.now in
    let f : Gift → Worth = λ g. value g.value scope in
    let gifts : List Gift = c.args.gifts.now in
    let i = c.loop-gift.gift-index in
    let g = c.gift-item.result in
    let w = c.eval-outcome.result in
    let is : w ≡ f g = c.eval-outcome.ensures.value ∙ ap (λ (n : ℕ). value g.value (scope_from c.args.env.now n)) c.loop-gift.invariant.seed in
    let more : map f (take (i + 1) gifts) ≡ map f (take i gifts) ++ w ∷ [] =
    map-more f gifts i g c.loop-gift-test.true c.gift-item.is ∙ ap (λ (x : Worth). map f (take i gifts) ++ x ∷ []) (sym is) in
    record {
      seed = c.eval-outcome.ensures.seed ∙ c.loop-gift.invariant.seed;
      values = ap values_of more ∙ values-more (map f (take i gifts)) w _ c.kept.ensures.value
          ∙ ap (λ (l : List Value). with_one l c.kept.result) c.loop-gift.invariant.values ∙ sym c.in_ok-add.ensures;
      met = subst (λ (ws : List Worth). Meets ws c.args.first.now c.kept.new.first) (sym more)
          (meets-then (map f (take i gifts)) (w ∷ []) c.args.first.now c.loop-gift.first c.kept.new.first c.loop-gift.invariant.met c.kept.ensures.met);
    }

pub returns-clause-met : goal.returns-clause-met
returns-clause-met c =
    let f : Gift → Worth = λ g. value g.value (scope_of c.args.env.now c.args.drawer.now) in
    subst (λ (l : List Gift). Meets (map f l) c.args.first.now c.loop-gift.first) (take_all c.loop-gift.gift-index c.args.gifts.now c.loop-gift-test.false) c.loop-gift.invariant.met
