use Rattle.std.proofs.Common.{◌≡◌, ◌∙◌, ◌+◌, ◌++◌, ◌∷◌, [], sym, ap, ap₂, arith, rules, length, map, List}
use Rattle.std.specs.List.{range_with_len}
use Rattle.std.proofs.lemmas.List.FromFn.{map-range_with_len_more}
use Rattle.brace_model.specs.declared.world.Agent.{Agent}
use Rattle.brace_fold.specs.Rows.{row_in}
use Rattle.brace_fold.proofs.lists.agents_of.Goals as goal

pub loop-k-preserved : goal.loop-k-preserved
loop-k-preserved c =
    let row = row_in c.args.program.now c.args.columns.now in
    let k = c.loop-k.k in
    let at : c.in-Ok.row ≡ k = search rules in
    let on : 0 + k ≡ k = omega arith in
    c.in_ok-push.ensures.items ∙ ap₂ (λ (l : List Agent) (a : Agent). l ++ a ∷ [])
    c.loop-k.invariant (c.in_ok-agent.ensures.is ∙ ap row at)
    ∙ sym (map-range_with_len_more row 0 k k on)

pub returns : goal.returns
returns c =
    let columns = c.args.columns.now in
    let end : c.loop-k.k ≡ length columns.ids.now = omega (
      arith,
      c.loop-k-test.false,
      c.loop-k.auto.k-end,
    ) in
    c.loop-k.invariant ∙ ap (λ n. map (row_in c.args.program.now columns) (range_with_len 0 n)) end
