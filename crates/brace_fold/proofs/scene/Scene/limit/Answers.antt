use Rattle.std.proofs.Common.{◌≡◌, ◌∙◌, ℤ, List, Some, refl, sym, ap, slice_get}
use Rattle.std.proofs.lemmas.Option.{slice_get_read}
use Rattle.brace_plan.specs.Acts.{limit_in}
use Rattle.brace_fold.proofs.Readings.{if_ok, local_there}
use Rattle.brace_fold.proofs.scene.Scene.limit.Goals as goal

pub returns-in-State : goal.returns-in-State
returns-in-State c =
    if_ok c.state.result _ _ (λ n h scope stands. h scope.this stands.stands.this
    ∙ sym (ap (limit_in scope) c.in-State.is)) c.state.ensures

pub returns-in-Some : goal.returns-in-Some
returns-in-Some c =
    let crowd = c.args.crowd.now in
    let lane = c.args.lane.now in
    let column = c.in-Some.column.now in
    let there : slice_get c.deref.result.now c.in-Constant.n ≡ Some column =
    slice_get_read c.deref.result.now _ c.in-Constant.n column refl c.in-Some.ensures.lookup.3.0
    c.in-Some.ensures.lookup.1 in
    let has : slice_get crowd.locals.items c.in-Constant.n ≡ Some column =
    ap (λ (l : List (List ℤ)). slice_get l c.in-Constant.n) (sym c.deref.ensures.value) ∙ there in
    if_ok c.read.result _ _ (λ word read scope stands.
    local_there c.args.self.now crowd lane scope stands c.in-Constant.n column has word
    (ap (λ (l : List ℤ). slice_get l lane.place) (sym c.as_slice.ensures) ∙ read)
    ∙ sym (ap (limit_in scope) c.in-Constant.is)) c.read.ensures
