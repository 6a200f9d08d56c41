use Rattle.std.proofs.Common.{◌∙◌, sym, ap, arith, ℕ, ◌+◌, ◌++◌, min, length, take, List}
use Rattle.brace_model.specs.declared.program.Value.{Value}
use Rattle.brace_model.specs.Step.{count_values}
use Rattle.brace_eval.proofs.BirthLemmas.{too_far_at, too_far_none, too_far_is}
use Rattle.brace_eval.proofs.births.first_too_far.Goals as goal

pub returns-then-is_too_far-clause-first : goal.returns-then-is_too_far-clause-first
returns-then-is_too_far-clause-first c =
    let i = c.loop-child.child-index in
    let here = sym (too_far_is c.args.living.now c.args.born.now i c.child-item.result c.loop-child-test.true c.child-item.is c.args.next c.saturating_add-agents.result c.saturating_add-values.result c.loop-child.id
    (c.saturating_add-agents.ensures ∙ ap (λ (n : ℕ). min (n + 1) 18446744073709551615) c.loop-child.invariant.agents)
    (c.saturating_add-values.ensures ∙ ap (λ (n : ℕ). min (n + length c.as_slice.result.now) 18446744073709551615) c.loop-child.invariant.values
    ∙ ap (λ (l : List Value). min (min (count_values (c.args.living.now ++ take i c.args.born.now)) 18446744073709551615 + length l) 18446744073709551615) c.as_slice.ensures)
    c.loop-child.invariant.id)
    ∙ sym c.is_too_far.ensures ∙ c.if-is_too_far.true in
    too_far_at c.args.living.now c.args.next c.args.born.now i c.child-item.result c.loop-child-test.true c.child-item.is c.loop-child.invariant.before here

pub returns-clause-first : goal.returns-clause-first
returns-clause-first c = sym (too_far_none c.args.living.now c.args.next c.args.born.now (λ r le. c.loop-child.invariant.before r (omega (arith, le, c.loop-child-test.false))))
