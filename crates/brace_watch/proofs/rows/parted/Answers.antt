use Rattle.std.proofs.Common.{◌≡◌, ◌<◌, ◌∙◌, List, [], ◌∷◌, ◌++◌, length, take, set, get_or, sym, ap, ap₂, subst, arith, rules, FitsSigned, w64}
use Rattle.std.proofs.lemmas.Int.{to_z-of_z}
use Rattle.brace_num.proofs.Lists.{take_next}
use Rattle.brace_model.specs.declared.world.Agent.{Agent}
use Rattle.brace_model.specs.World.{x_of, y_of}
use Rattle.brace_cuts.specs.Space.{owner_of}
use Rattle.brace_watch.specs.inner.Columns.{all_owned}
use Rattle.brace_watch.proofs.Counting.{none_owned, boxes_long, unowned, one_owned}
use Rattle.brace_watch.proofs.rows.parted.Goals as goal
use Rattle.brace_watch.proofs.rows.parted.Goals.{in-Some+in_ok-add, in_default}

pub loop-place-init : goal.loop-place-init
loop-place-init c = c.in_ok-boxes.ensures
    ∙ none_owned c.args.program.now c.args.cuts.now c.parts.result c.parts.ensures

pub index_mut-rows-requires : goal.index_mut-rows-requires
index_mut-rows-requires c =
    let long = ap length c.loop-place.invariant ∙ boxes_long c.args.program.now c.args.cuts.now _ in
    omega (arith, long, c.owner-owner.ensures.in_range, c.loop-place.boxes.ok)

pub loop-place-preserved : goal.loop-place-preserved
loop-place-preserved c =
    let program = c.args.program.now in
    let cuts = c.args.cuts.now in
    let agents : List Agent = c.args.agents.now in
    let i = c.loop-place.place in
    let a : Agent = c.of-agent.result in
    let xs = take i agents in
    let low : i < length agents = search rules in
    let more = take_next agents i a low (c.of-agent.ensures a) in
    subst (λ ys. c.match-class_in.boxes.items ≡ all_owned program cuts ys) (sym more)
    (elim c.match-class_in.branch [
      | in-Some+in_ok-add w ↦
          let class = w.in-Some.class.now in
          let p = w.owner-owner.result in
          let before = w.index_mut-rows.result.now in
          let fits_x : FitsSigned w64 w.number.result = search rules in
          let fits_y : FitsSigned w64 w.number-in-Some.result = search rules in
          let x_is = sym w.number.ensures ∙ sym (to_z-of_z w64 w.number.result fits_x) in
          let y_is = sym w.number-in-Some.ensures ∙ sym (to_z-of_z w64 w.number-in-Some.result fits_y) in
          let owner : owner_of cuts (x_of class a) (y_of class a) ≡ p =
          ap₂ (owner_of cuts) x_is y_is ∙ sym w.owner-owner.ensures.owner in
          let now = w.index_mut-rows.ensures.value
          ∙ ap (λ l. get_or l p before) c.loop-place.invariant in
          let rows = w.in_ok-add.ensures ∙ ap (λ l. l ++ a ∷ []) now in
          ap (λ v. v.items) w.boxes-is ∙ ap (λ l. set l p w.add.new.self) c.loop-place.invariant
          ∙ one_owned program cuts xs a class p w.add.new.self before (sym w.in-Some.ensures) owner
          w.owner-owner.ensures.in_range rows
      | in_default w ↦
          ap (λ v. v.items) w.boxes-is ∙ c.loop-place.invariant
          ∙ unowned program cuts xs a (sym w.in_default.ensures)
    ])
