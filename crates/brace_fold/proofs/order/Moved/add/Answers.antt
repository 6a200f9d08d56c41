use Rattle.std.proofs.Common.{◌<◌, ◌≤◌, ◌∙◌, ◌++◌, List, length, refl, rules, sym, subst, take, append-nil}
use Rattle.std.proofs.lemmas.List.{take_all}
use Rattle.std.proofs.lemmas.Option.{get_or_from_slice_get}
use Rattle.brace_model.specs.declared.world.Agent.{Agent}
use Rattle.brace_fold.specs.Rows.{AreMoved}
use Rattle.brace_fold.proofs.Ownings.{added}
use Rattle.brace_fold.proofs.order.Moved.add.Goals as goal

pub loop-place-init : goal.loop-place-init
loop-place-init c = record {
  moved = λ agents is. subst (λ l. AreMoved l c.args.self.now) (sym (append-nil agents)) is;
  wide = refl;
}

pub loop-place-preserved : goal.loop-place-preserved
loop-place-preserved c =
    let more : List Agent = c.args.more.now in
    let place = c.loop-place.place in
    let a : Agent = c.in_ok-agent.agent in
    let low : place < length more = search rules in
    record {
      moved = λ agents is.
          subst (λ l. AreMoved l c.push_agent.new.left)
          (added agents more place a low
          (sym (get_or_from_slice_get more place a a c.in_ok-agent.ensures)))
          (c.in_ok-push_agent.ensures.rows (agents ++ take place more)
          (c.loop-place.invariant.moved agents is));
      wide = c.in_ok-push_agent.ensures.wide ∙ c.loop-place.invariant.wide;
    }

pub returns-clause-rows : goal.returns-clause-rows
returns-clause-rows c agents is =
    let end : length c.args.more.now ≤ c.loop-place.place = search rules in
    subst (λ l. AreMoved (agents ++ l) c.loop-place.self)
    (take_all c.loop-place.place c.args.more.now end)
    (c.loop-place.invariant.moved agents is)
