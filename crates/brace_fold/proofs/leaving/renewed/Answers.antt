use Rattle.std.proofs.Common.{◌≡◌, ◌∙◌, ap, ap₂, length, take, List}
use Rattle.std.proofs.lemmas.List.{with_items_is}
use Rattle.brace_model.specs.declared.program.Value.{Value}
use Rattle.brace_model.specs.declared.world.Agent.{Agent}
use Rattle.brace_model.specs.World.{value_at}
use Rattle.brace_fold.specs.inner.Rulings.{moved_from, new_states}
use Rattle.brace_fold.proofs.LeavingLemmas.{new-front}
use Rattle.brace_fold.proofs.leaving.renewed.Goals as goal

pub returns : goal.returns
returns c =
    let a = c.args.a in
    let class = c.args.class.now in
    let columns = c.args.columns.now in
    let row = c.args.row in
    let old : c.into_vec-states.result.items ≡ a.states = c.into_vec-states.ensures in
    let x : c.value_at-x.result ≡ value_at a.states class.x = c.value_at-x.ensures ∙ ap (λ vs. value_at vs class.x) (c.deref.ensures.value ∙ old) in
    let y : c.value_at-y.result ≡ value_at a.states class.y = c.value_at-y.ensures ∙ ap (λ vs. value_at vs class.y) (c.deref-2.ensures.value ∙ old) in
    let cut : c.deref_mut.result.now ≡ take (length columns) a.states = c.deref_mut.ensures.value ∙ c.truncate.ensures.items ∙ ap (take (length columns)) old in
    let last : c.from_vec.result ≡ c.set_row.new.states = c.from_vec.ensures ∙ with_items_is c.truncate.new.self c.set_row.new.states (c.set_row.auto.states ∙ c.deref_mut.ensures.len) in
    let new : new_states columns row c.deref_mut.result.now ≡ new_states columns row a.states = ap (new_states columns row) cut ∙ new-front columns row a.states in
    ap (λ (vs : List Value). let b : Agent = record { class = a.class; id = a.id; states = vs } in b)
    (last ∙ c.set_row.ensures
    ∙ ap (λ (vs : List Value). moved_from class.reach class.y c.value_at-y.result (moved_from class.reach class.x c.value_at-x.result vs)) new
    ∙ ap₂ (λ v w. moved_from class.reach class.y v (moved_from class.reach class.x w (new_states columns row a.states))) y x)
