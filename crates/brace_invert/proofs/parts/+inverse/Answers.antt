use Rattle.std.proofs.Common.{◌≡◌, ◌∙◌, ◌++◌, ap, subst, OnOk, flat_map}
use Rattle.brace_invert.specs.Split.{inverse_of}
use Rattle.brace_invert.proofs.PartEquations.{inverse_if, inverse_inner, inverse_outer}
use Rattle.brace_invert.proofs.parts.+inverse.Goals as goal

pub add_inverse-returns-in_ok-b-in-If : goal.add_inverse-returns-in_ok-b-in-If
add_inverse-returns-in_ok-b-in-If t c =
    subst (λ p. OnOk c.push.result (c.push.new.self ≡ c.args.part.now ++ p))
    (inverse_if c.args.s c.args.in_loop _ c.in-If.condition c.in-If.a c.in-If.b c.in_ok-a-in-If.a c.in_ok-b-in-If.b c.in-If.is c.in-If.condition-is
    (c.in_ok-a-in-If.ensures ∙ ap (flat_map (λ s. inverse_of s c.args.in_loop)) c.in-If.a-is) (c.in_ok-b-in-If.ensures ∙ ap (flat_map (λ s. inverse_of s c.args.in_loop)) c.in-If.b-is))
    c.push.ensures.ok

pub add_inverse_loop-returns-then-in_loop : goal.add_inverse_loop-returns-then-in_loop
add_inverse_loop-returns-then-in_loop t c =
    subst (λ p. OnOk c.add_inner.result (c.add_inner.new.part ≡ c.args.part.now ++ p))
    (inverse_inner c.args.class c.args.body c.in_ok-body.body c.args.at c.args.in_loop c.in_ok-body.ensures c.if-in_loop.true)
    c.add_inner.ensures

pub add_inverse_loop-returns-else-in_loop : goal.add_inverse_loop-returns-else-in_loop
add_inverse_loop-returns-else-in_loop t c =
    subst (λ p. OnOk c.push.result (c.push.new.self ≡ c.args.part.now ++ p))
    (inverse_outer c.args.class c.args.body c.in_ok-body.body c.args.at c.args.in_loop c.in_ok-body.ensures c.if-in_loop.false)
    c.push.ensures.ok
