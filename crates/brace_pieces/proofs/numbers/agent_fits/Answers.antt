use Rattle.std.proofs.Common.{◌≡◌, ◌<◌, ◌≤◌, ◌∙◌, List, get_or, length, sym, true, ap, ap₂, arith, rules, to_z, of_z, w64}
use Rattle.std.specs.Prelude.{◌&&◌}
use Rattle.std.specs.List.{list_all}
use Rattle.std.proofs.lemmas.Int.{to_z-of_z}
use Rattle.std.proofs.lemmas.List.{take_all}
use Rattle.std.proofs.lemmas.List.Folds.{list_all_more}
use Rattle.std.proofs.lemmas.Option.{unwrap_or-slice_get}
use Rattle.brace_num.specs.Exact.{fits}
use Rattle.brace_model.specs.declared.program.Value.{Value}
use Rattle.brace_model.specs.World.{no_value, number}
use Rattle.brace_pieces.proofs.numbers.agent_fits.Goals as goal

pub loop-state-preserved : goal.loop-state-preserved
loop-state-preserved c d =
    let values : List Value = (get_or c.args.agents.now c.args.place d).states in
    let state = c.loop-state.state in
    let count = c.states-state-end.ensures d in
    let low : state < length values = omega (arith, count, c.loop-state-test.true) in
    let told : to_z w64 (of_z w64 c.number_at.result) ≡ c.number_at.result =
    search (rules, to_z-of_z) in
    list_all_more (λ v. fits (number v)) values state no_value low
    ∙ ap₂ (λ a b. a && b) (c.loop-state.invariant d)
    (ap (λ v. fits (number v)) (sym (unwrap_or-slice_get values state no_value))
    ∙ ap fits (sym (c.number_at.ensures d)) ∙ ap fits (sym told) ∙ c.number_fits.ensures)

pub returns : goal.returns
returns c d =
    let values : List Value = (get_or c.args.agents.now c.args.place d).states in
    let count = c.states-state-end.ensures d in
    let past : length values ≤ c.loop-state.state = omega (arith, count, c.loop-state-test.false) in
    ap (list_all (λ v. fits (number v))) (sym (take_all c.loop-state.state values past))
    ∙ c.loop-state.invariant d
