use Rattle.std.proofs.Common.{◌≡◌, ◌≤◌, sym, subst, rules, ℕ, ℤ, List, map, flat_map, take, length, true, false, arith}
use Rattle.std.proofs.lemmas.List.{drop_all, take_all}
use Rattle.std.proofs.lemmas.List.Sorted.{IsPermutation-sym}
use Rattle.brace_plan.specs.declared.action.Action.{Action}
use Rattle.brace_fold.specs.inner.Crowds.{Stands, chosen, rows, world}
use Rattle.brace_fold.specs.inner.Deeds.{Does, Leads, done_by, done_once, into}
use Rattle.brace_fold.proofs.Actions.{if-does, if-scopes, loop-does, loop-scopes}
use Rattle.brace_fold.proofs.Doings.{does-none, does-more, does-nothing, does-left}
use Rattle.brace_fold.proofs.Walks.{no-actions, no-scopes, on_ok, take-between}
use Rattle.brace_fold.proofs.walk.+walk.Goals as goal

pub action-returns-in-Const : goal.action-returns-in-Const
action-returns-in-Const t c = on_ok c.set.result _ _ (λ h scopes stands.
    subst (λ (a : Action). Leads c.args.scene.now (done_once c.args.scene.now a) scopes c.set.new.crowd c.args.heard.now c.args.heard.now)
    (sym c.in-Const.is) (h scopes c.args.heard.now stands)) c.set.ensures

pub side-returns-then-is_empty : goal.side-returns-then-is_empty
side-returns-then-is_empty t c = λ scopes stands.
    subst (λ (l : List Action). Does c.args.scene.now (done_by c.args.scene.now l) (chosen c.args.set scopes c.args.flags.now) c.args.heard.now c.args.heard.now)
    (sym (no-actions c.args.actions.now (search rules)))
    (does-nothing c.args.scene.now (chosen c.args.set scopes c.args.flags.now) c.args.heard.now)

pub side-returns : goal.side-returns
side-returns t c = on_ok c.block.result _ _ (λ h scopes stands. h _ (c.in_ok-part.ensures c.args.scene.now scopes stands)) c.block.ensures

pub action-returns-in_ok-side-in-If : goal.action-returns-in_ok-side-in-If
action-returns-in_ok-side-in-If t c = on_ok c.side-in-If.result _ _ (λ h scopes stands.
    let scene = c.args.scene.now in
    let code = c.in-If.code in
    let x = c.in-If.a in
    let y = c.in-If.b in
    let words = c.in_ok-flags-in-If.flags in
    let flag = c.in_ok-flags-in-If.ensures.flag in
    let worths = c.in_ok-flags-in-If.ensures.worths scopes stands in
    let first = subst (λ (l : List ℤ). Does scene (done_by scene x) (chosen true scopes l) c.args.heard.now c.side.new.heard) c.as_slice.ensures (c.in_ok-side-in-If.ensures scopes stands) in
    let second = subst (λ (l : List ℤ). Does scene (done_by scene y) (chosen false scopes l) c.side.new.heard c.side-in-If.new.heard) c.as_slice-in-If.ensures (h scopes stands) in
    subst (λ (a : Action). Leads scene (done_once scene a) scopes c.args.crowd.now c.args.heard.now c.side-in-If.new.heard) (sym c.in-If.is)
    (record {
      does = if-does scene code flag x y scopes words c.args.heard.now c.side.new.heard c.side-in-If.new.heard worths first second;
      stands = subst (Stands scene c.args.crowd.now) (sym (if-scopes scene code flag x y scopes words worths)) stands;
    })) c.side-in-If.ensures

pub action-returns-in-Foreach : goal.action-returns-in-Foreach
action-returns-in-Foreach t c = on_ok c.iterations.result _ _ (λ h scopes stands.
    subst (λ (a : Action). Leads c.args.scene.now (done_once c.args.scene.now a) scopes c.args.crowd.now c.args.heard.now c.iterations.new.heard)
    (sym c.in-Foreach.is) (h scopes c.in-Foreach.field-3 stands)) c.iterations.ensures

pub action-returns-in-Assign : goal.action-returns-in-Assign
action-returns-in-Assign t c = on_ok c.tell.result _ _ (λ h scopes stands.
    subst (λ (a : Action). Leads c.args.scene.now (done_once c.args.scene.now a) scopes c.args.crowd.now c.args.heard.now c.tell.new.heard)
    (sym c.in-Assign.is) (h scopes stands)) c.tell.ensures

pub iterations-returns : goal.iterations-returns
iterations-returns t c = λ scopes offset stands.
    let scene = c.args.scene.now in
    let moved = IsPermutation-sym (world scene) (rows scene) c.requires.moved in
    let all : take c.loop-at.at scopes ≡ scopes = take_all c.loop-at.at scopes
    (subst (λ (n : ℕ). n ≤ c.loop-at.at) stands.long (search rules)) in
    record {
      does = loop-does scene c.args.class c.args.bounds.now c.args.body.now offset moved scopes c.args.heard.now c.loop-at.heard
          (subst (λ l. Does scene (done_by scene c.args.body.now) (flat_map (into scene c.args.class c.args.bounds.now) l) c.args.heard.now c.loop-at.heard) all
          (c.loop-at.invariant.done scopes stands));
      stands = subst (Stands scene c.args.crowd.now) (sym (loop-scopes scene c.args.class c.args.bounds.now c.args.body.now offset scopes)) stands;
    }

pub iterations-loop-at-preserved : goal.iterations-loop-at-preserved
iterations-loop-at-preserved t c =
    let scene = c.args.scene.now in
    let enters = into scene c.args.class c.args.bounds.now in
    record {
      within = c.in_ok-part.ensures.next.1;
      led = c.in_ok-part.ensures.led;
      done = λ scopes stands.
          let next = c.in_ok-part.part.next in
          let here = c.in_ok-block.ensures _ (c.in_ok-part.ensures.inside scopes stands) in
          subst (λ l. Does scene (done_by scene c.args.body.now) l c.args.heard.now c.block.new.heard)
          (take-between enters c.loop-at.at next scopes (omega (arith, c.in_ok-part.ensures.next.0)))
          (does-more scene (done_by scene c.args.body.now) _ _ c.args.heard.now c.loop-at.heard c.block.new.heard (c.loop-at.invariant.done scopes stands) here);
    }

pub block-returns-then-is_empty : goal.block-returns-then-is_empty
block-returns-then-is_empty t c = λ scopes stands.
    subst (λ l. Does c.args.scene.now (done_by c.args.scene.now c.args.actions.now) l c.args.heard.now c.args.heard.now)
    (sym (no-scopes c.args.scene.now c.args.crowd scopes stands (search rules)))
    (does-none c.args.scene.now (done_by c.args.scene.now c.args.actions.now) c.args.heard.now)

pub block-loop-item-init : goal.block-loop-item-init
block-loop-item-init t c = λ scopes stands. (scopes, stands, λ end h. h)

pub block-loop-item-preserved : goal.block-loop-item-preserved
block-loop-item-preserved t c = λ scopes stands.
    let scene = c.args.scene.now in
    let (here, so, rest) = c.loop-item.invariant scopes stands in
    let leads = c.in_ok-action.ensures here so in (
      map (λ s. (done_once scene c.item-item.result s).scope) here,
      leads.stands,
      λ end h.
          rest end (does-left scene _ c.args.actions.now c.loop-item.item-index c.item-item.result c.as_slice-item-items.ensures c.loop-item-test.true c.item-item.is
          here c.loop-item.heard c.action.new.heard end leads.does h),
    )

pub block-returns : goal.block-returns
block-returns t c = λ scopes stands.
    let scene = c.args.scene.now in
    let (here, so, rest) = c.loop-item.invariant scopes stands in
    let over : length c.args.actions.now ≤ c.loop-item.item-index = subst (λ (l : List Action). length l ≤ c.loop-item.item-index) c.as_slice-item-items.ensures c.loop-item-test.false in
    rest c.loop-item.heard (subst (λ (l : List Action). Does scene (done_by scene l) here c.loop-item.heard c.loop-item.heard)
    (sym (drop_all c.loop-item.item-index c.args.actions.now over))
    (does-nothing scene here c.loop-item.heard))
