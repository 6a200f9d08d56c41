use Rattle.std.proofs.Common.{◌∙◌, sym, ap, arith, ℕ, ◌+◌, min, length}
use Rattle.brace_herd.proofs.CensusJoins.{far_there, far_none, far_so}
use Rattle.brace_herd.proofs.census.first_too_far.Goals as goal

pub returns-then-is_too_far-clause-first : goal.returns-then-is_too_far-clause-first
returns-then-is_too_far-clause-first c =
    let m = c.args.program.now in
    let all = c.args.all.now in
    let i = c.loop-parent.parent-index in
    let items = c.as_slice-parent-items.result.now in
    let is = c.as_slice-parent-items.ensures in
    let invariant = c.loop-parent.invariant in
    let here = sym (far_so m c.args.next all items is i (record { id = 0; class = 0 }) c.saturating_add-agents.result c.saturating_add-values.result c.values_in.result c.loop-parent.id c.loop-parent-test.true
    (c.saturating_add-agents.ensures ∙ ap (λ (n : ℕ). min (n + 1) 18446744073709551615) invariant.agents)
    (c.saturating_add-values.ensures ∙ ap (λ (n : ℕ). min (n + c.values_in.result) 18446744073709551615) invariant.values)
    c.values_in.ensures invariant.id)
    ∙ sym c.is_too_far.ensures ∙ c.if-is_too_far.true in
    far_there m c.args.next all items is i (record { id = 0; class = 0 }) c.loop-parent-test.true invariant.before here

pub returns-clause-first : goal.returns-clause-first
returns-clause-first c = far_none c.args.program.now c.args.next c.args.all.now (λ r le. c.loop-parent.invariant.before r (omega (arith, le, c.loop-parent-test.false, ap length c.as_slice-parent-items.ensures)))
