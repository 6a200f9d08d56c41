use Rattle.std.proofs.Common.{◌∙◌, [], Some, ap, map, slice_get, sym}
use Rattle.std.proofs.lemmas.Option.{slice_get-get_or}
use Rattle.brace_plan.specs.Acts.{near_by}
use Rattle.brace_fold.specs.inner.Crowds.{rows}
use Rattle.brace_fold.specs.inner.Sights.{found_around}
use Rattle.brace_fold.proofs.Glances.{clear, eye_is, eye_of, looked}
use Rattle.brace_fold.proofs.Readings.{if_ok}
use Rattle.brace_fold.proofs.Sortings.{nowhere}
use Rattle.brace_fold.proofs.Taking.{takes_near}
use Rattle.brace_fold.proofs.scene.Scene.find.Goals as goal

pub look_around-requires-clause-rows : goal.look_around-requires-clause-rows
look_around-requires-clause-rows c =
    (c.requires.sought.glance c.in-Some.glance c.in-Some.is).has

pub returns-in-Some-clause-finds : goal.returns-in-Some-clause-finds
returns-in-Some-clause-finds c =
    let scene = c.args.self.now in
    let lane = c.args.lane.now in
    let sought = c.args.sought.now in
    let spots = scene.cells.now.spots.items in
    let runs = c.lead.new.runs in
    let glance = c.in-Some.glance in
    let shows = c.requires.sought.glance glance c.in-Some.is in
    let uncut = c.requires.sought.uncut glance c.in-Some.is in
    let low = c.in_ok-lead.ensures.there in
    let around = c.in_ok-lead.ensures.around in
    let eye = eye_of scene c.requires.scene sought.class glance shows lane.this in
    if_ok c.look_around.result _ _
    (λ count appended. record {
      found = found_around eye [] spots runs;
      appended = appended spots eye
          (looked scene c.requires.scene sought.class glance shows lane.this low)
          (clear scene c.requires.scene sought.class glance shows lane.this runs low
          (around _ (slice_get-get_or spots lane.this nowhere low)));
      near = λ scope stands.
          takes_near scene c.args.crowd.now lane scope sought.class [] eye runs c.requires.scene
          stands (eye_is scene c.requires.scene sought.class glance shows lane.this scope.this
          stands.stands.this) around
          ∙ ap (λ l. map (λ b. Some b)
          (near_by scene.program.now (rows scene) scope sought.class l)) (sym uncut);
    })
    c.look_around.ensures

pub returns-clause-finds : goal.returns-clause-finds
returns-clause-finds c =
    let scene = c.args.self.now in
    let lane = c.args.lane.now in
    let sought = c.args.sought.now in
    let spots = scene.cells.now.spots.items in
    let runs = c.lead.new.runs in
    let eye = c.in_ok-eye.eye in
    if_ok c.look_around-2.result _ _
    (λ count appended. record {
      found = found_around eye c.deref.result.now spots runs;
      appended = appended;
      near = λ scope stands.
          ap (λ l. map (slice_get (rows scene)) (found_around eye l spots runs))
          (c.deref.ensures.value ∙ c.in_ok-cut.ensures scope stands)
          ∙ takes_near scene c.args.crowd.now lane scope sought.class sought.bounds.now eye runs
          c.requires.scene stands (c.in_ok-eye.ensures scope.this stands.stands.this)
          c.in_ok-lead.ensures.around;
    })
    c.look_around-2.ensures
