use Rattle.std.proofs.Common.{◌≡◌, ◌∙◌, ◌++◌, ◌<◌, refl, sym, ap, subst, length, rules, arith, List, Some, slice_get}
use Rattle.std.proofs.lemmas.Option.{same_Some, slice_get_read}
use Rattle.brace_model.specs.declared.program.Effect.{Effect}
use Rattle.brace_model.specs.declared.world.Agent.{Agent}
use Rattle.brace_model.specs.Query.{Saying}
use Rattle.brace_model.specs.World.{class_of}
use Rattle.brace_eval.specs.Heard.{IsHeard, effects_in}
use Rattle.brace_fold.specs.inner.Joins.{to_effect, to_first}
use Rattle.brace_fold.proofs.Joinings.{effect-there, first-more}
use Rattle.brace_fold.proofs.joining.join_agent.Goals as goal

pub loop-k-preserved : goal.loop-k-preserved
loop-k-preserved c = λ rows x more said faults found row summed h.
    let program = c.args.program.now in
    let agents = c.args.agents.now in
    let k = c.loop-k.k in
    let there : slice_get agents c.args.place ≡ Some c.in-Some.a.now =
    slice_get_read agents _ c.args.place c.in-Some.a.now refl c.in-Some.ensures.lookup.3.0 c.in-Some.ensures.lookup.1 in
    let mine : c.in-Some.a.now ≡ x = same_Some c.in-Some.a.now x (sym there ∙ found) in
    let effects : c.effects_of-k-end.result.now ≡ effects_in (class_of program x) =
    c.effects_of-k-end.ensures ∙ ap (λ (y : Agent). effects_in (class_of program y)) mine in
    let low : k < length (effects_in (class_of program x)) = subst (λ (l : List Effect). k < length l) effects c.loop-k-test.true in
    let at : c.in-Ok.effect ≡ k = search rules in
    let (e, has) = effect-there (effects_in (class_of program x)) k low in
    let next = c.in_ok-join_effect.ensures rows x e more (said ++ to_first x.id more k) faults found row (ap (slice_get (effects_in (class_of program x))) at ∙ has) summed
    (c.loop-k.invariant rows x more said faults found row summed h) in
    subst (λ (l : List Saying). IsHeard program agents l faults c.join_effect.new.heard)
    (ap (λ n. (said ++ to_first x.id more k) ++ to_effect x.id n more) at ∙ first-more x.id said more k) next

pub returns : goal.returns
returns c = λ rows a more said faults found row summed h.
    let program = c.args.program.now in
    let agents = c.args.agents.now in
    let there : slice_get agents c.args.place ≡ Some c.in-Some.a.now =
    slice_get_read agents _ c.args.place c.in-Some.a.now refl c.in-Some.ensures.lookup.3.0 c.in-Some.ensures.lookup.1 in
    let mine : c.in-Some.a.now ≡ a = same_Some c.in-Some.a.now a (sym there ∙ found) in
    let end : c.loop-k.k ≡ length c.effects_of-k-end.result.now = omega (arith, c.loop-k-test.false, c.loop-k.auto.k-end) in
    let all : c.loop-k.k ≡ length (effects_in (class_of program a)) =
    end ∙ ap length (c.effects_of-k-end.ensures ∙ ap (λ (y : Agent). effects_in (class_of program y)) mine) in
    subst (λ n. IsHeard program agents (said ++ to_first a.id more n) faults c.loop-k.heard) all
    (c.loop-k.invariant rows a more said faults found row summed h)
