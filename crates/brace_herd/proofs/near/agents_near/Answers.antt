use Rattle.std.proofs.Common.{◌≡◌, ◌∙◌, ◌<◌, ap, subst, get_or, length, map, w64}
use Rattle.std.specs.List.Sorted.{IsPermutation}
use Rattle.std.proofs.lemmas.Int.{to_z-of_z}
use Rattle.std.proofs.lemmas.List.Sorted.{All-permutation, IsPermutation-map, IsPermutation-sym, IsPermutation-trans}
use Rattle.std.specs.Prelude.{filter}
use Rattle.brace_num.proofs.Orders.{filter_rises, one_sorted}
use Rattle.brace_model.specs.declared.world.Agent.{Agent}
use Rattle.brace_fold.specs.Asked.{by_row, no_agent}
use Rattle.brace_fold.proofs.Ownings.{picked-row}
use Rattle.brace_invert.specs.Held.{is_near}
use Rattle.brace_herd.specs.inner.Near.{IsWidened, StandsFit}
use Rattle.brace_herd.specs.inner.Packing.{agent_at}
use Rattle.brace_fold.proofs.MoveLemmas.{picked-within}
use Rattle.brace_herd.proofs.AskedLemmas.{filter_moved}
use Rattle.brace_herd.proofs.NearLemmas.{rows_rise}
use Rattle.brace_herd.proofs.PackLemmas.{rows_are}
use Rattle.brace_herd.proofs.near.agents_near.Goals as goal

pub returns-clause-near : goal.returns-clause-near
returns-clause-near c agents stored =
    let program = c.args.program.now in
    let own = c.args.rows.now in
    let those = stored.those in
    let id = λ (a : Agent). a.id in
    let test = is_near program c.args.area.now c.args.range in
    let wide = subst (λ r. IsWidened c.args.area.now r c.widened.result)
    (to_z-of_z w64 c.args.range c.ranges.range) c.widened.ensures in
    let near = c.in-Ok.ensures c.args.area.now c.args.range those wide stored.listed.moved in
    let places = c.in-Ok.places.items in
    let rows = c.in-Ok-rows_by_id.sorted.items in
    let sorted = c.in-Ok-rows_by_id.ensures in
    let within = All-permutation (λ row. row < length those) places rows sorted.same
    (picked-within those places (filter test those) near.are) in
    let is : c.in_ok-near.near ≡ by_row those rows =
    c.in_ok-near.ensures ∙ ap (map (agent_at program own)) c.deref.ensures.value
    ∙ rows_are program own those stored.listed.are rows within in
    let here = subst (λ l. IsPermutation l (by_row those rows))
    (picked-row those (filter test those) places near.are)
    (IsPermutation-map (λ row. get_or those row no_agent) places rows sorted.same) in
    let moved = IsPermutation-trans (filter test agents) (filter test those) (by_row those rows)
    (filter_moved test agents those stored.same) here in
    let rise = rows_rise those c.as_slice.result.now rows
    (c.as_slice.ensures.value ∙ stored.listed.moved.ids_are) sorted.in_order in
    is ∙ one_sorted id (by_row those rows) (filter test agents) moved rise
    (filter_rises id test agents stored.rises)

pub returns-clause-fit : goal.returns-clause-fit
returns-clause-fit c agents stored =
    All-permutation (StandsFit c.args.program.now) stored.those agents
    (IsPermutation-sym agents stored.those stored.same)
    (c.in-Ok.ensures c.args.area.now _ stored.those c.widened.ensures stored.listed.moved).fit
