use Rattle.std.proofs.Common.{◌≡◌, ◌∙◌, refl, sym, ap, subst, add-one, arith, length, rules, List, Some, slice_get}
use Rattle.std.proofs.lemmas.Option.{slice_get_read}
use Rattle.brace_model.specs.declared.program.Effect.{Effect}
use Rattle.brace_model.specs.World.{class_of}
use Rattle.brace_eval.specs.Heard.{effects_in}
use Rattle.brace_fold.specs.Hears.{Hears}
use Rattle.brace_fold.specs.inner.Joins.{to_effect, to_first}
use Rattle.brace_fold.proofs.Alikes.{hears-more, hears-none}
use Rattle.brace_fold.proofs.bringing.bring_agent.Goals as goal

pub loop-k-init : goal.loop-k-init
loop-k-init c = λ program sorted agents a more apart of found here are. hears-none
    program agents c.args.said.now

pub loop-k-preserved : goal.loop-k-preserved
loop-k-preserved c = λ program sorted agents a more apart of found here are.
    let k = c.loop-k.k in
    let old = c.args.said.now in
    let effects = c.as_slice-effects.result.now in
    let at : c.in-Ok.number ≡ k = search rules in
    let there : slice_get effects k ≡ Some c.in-Some.effect.now =
    slice_get_read effects _ k c.in-Some.effect.now refl c.in-Some.ensures.lookup.3.0
    c.in-Some.ensures.lookup.1 in
    let same : effects_in (class_of program a) ≡ effects =
    ap effects_in of ∙ sym c.as_slice-effects.ensures in
    let has : slice_get (effects_in (class_of program a)) c.in-Ok.number
    ≡ Some c.in-Some.effect.now =
    ap (slice_get (effects_in (class_of program a))) at
    ∙ ap (λ (l : List Effect). slice_get l k) same ∙ there in
    let next = subst
    (λ n. Hears program agents (to_effect a.id n more) c.loop-k.said c.bring_effect.new.said) at
    (c.in_ok-bring_effect.ensures program sorted agents a c.in-Some.effect.now more apart
    found here has refl are) in
    subst (λ n. Hears program agents (to_first a.id more n) old
    c.bring_effect.new.said) (sym (add-one k))
    (hears-more program agents (to_first a.id more k) (to_effect a.id k more) old
    c.loop-k.said c.bring_effect.new.said
    (c.loop-k.invariant program sorted agents a more apart of found here are) next)

pub returns : goal.returns
returns c = λ program sorted agents a more apart of found here are.
    let effects = c.as_slice-effects.result.now in
    let same : effects_in (class_of program a) ≡ effects =
    ap effects_in of ∙ sym c.as_slice-effects.ensures in
    let end : c.loop-k.k ≡ length effects =
    omega (arith, c.loop-k-test.false, c.loop-k.auto.k-end) in
    subst (λ n. Hears program agents (to_first a.id more n) c.args.said.now c.loop-k.said)
    (end ∙ sym (ap length same))
    (c.loop-k.invariant program sorted agents a more apart of found here are)
