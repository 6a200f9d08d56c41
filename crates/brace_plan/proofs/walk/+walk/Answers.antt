use Rattle.std.proofs.Common.{◌≡◌, ◌∙◌, sym, ap, subst, refl, map, drop, length, ◌≤◌, ◌+◌, ◌∷◌, [], List, Bool, ℕ, true, false, cond, get_or, ◌<◌, append-nil, Some, rules}
use Rattle.std.proofs.lemmas.List.{drop_all}
use Rattle.brace_model.specs.declared.program.Value.{Value}
use Rattle.brace_model.specs.declared.world.Agent.{Agent}
use Rattle.brace_model.specs.Value.{agent_of, Scope}
use Rattle.brace_model.specs.Query.{Deed, saying, iterated, inside}
use Rattle.brace_code.specs.Codes.{gives}
use Rattle.brace_plan.specs.declared.action.Action.{Action}
use Rattle.brace_plan.specs.declared.answer.Answer.{Answer}
use Rattle.brace_plan.specs.inner.Walks.{scope_at, Adds, act_in, block_in, loop_in, agents_at, is_taken}
use Rattle.brace_plan.proofs.AnswerLemmas.{adds-nothing, adds-alike, adds-then, adds-value, adds-saying}
use Rattle.brace_plan.proofs.FormerLemmas.{sets-then}
use Rattle.brace_plan.proofs.Steps.{act-Foreach, act-Assign}
use Rattle.brace_plan.proofs.WalkLemmas.{if_ok, adds-if, halts, goes_on, visit, loop-near, same-visits, any-default}
use Rattle.brace_plan.proofs.walk.+walk.Goals as goal

pub action-returns-then-is_true-clause-added : goal.action-returns-then-is_true-clause-added
action-returns-then-is_true-clause-added t c =
    if_ok c.block.result _ _ (λ s h.
    adds-if c.args.scene.now c.args.seat.now c.args.desk.now.drawer.seed c.args.locals.now
    c.args.action.now c.in-If.code c.in-If.a c.in-If.b c.in-Some-2.v true c.args.answer.now
    c.worth-in-If.new.answer c.block.new.answer _ c.in-If.is
    (sym c.in_ok-v-in-If.ensures.value ∙ c.in-Some-2.is) c.in_ok-v-in-If.ensures.added
    (sym c.is_true.ensures ∙ c.if-is_true.true) c.in_ok-v-in-If.ensures.seed h)
    c.block.ensures.added

pub action-returns-else-is_true-clause-added : goal.action-returns-else-is_true-clause-added
action-returns-else-is_true-clause-added t c =
    if_ok c.block-else-is_true.result _ _ (λ s h.
    adds-if c.args.scene.now c.args.seat.now c.args.desk.now.drawer.seed c.args.locals.now
    c.args.action.now c.in-If.code c.in-If.a c.in-If.b c.in-Some-2.v false c.args.answer.now
    c.worth-in-If.new.answer c.block-else-is_true.new.answer _ c.in-If.is
    (sym c.in_ok-v-in-If.ensures.value ∙ c.in-Some-2.is) c.in_ok-v-in-If.ensures.added
    (sym c.is_true.ensures ∙ c.if-is_true.false) c.in_ok-v-in-If.ensures.seed h)
    c.block-else-is_true.ensures.added

pub action-returns-in_ok-iterations-in-Foreach-clause-added : goal.action-returns-in_ok-iterations-in-Foreach-clause-added
action-returns-in_ok-iterations-in-Foreach-clause-added t c =
    let here = scope_at c.args.scene.now c.args.seat.now c.args.desk.now.drawer.seed c.args.locals.now in
    let scene = c.args.scene.now in
    let does = ap (λ (x : Action). act_in scene x here) c.in-Foreach.is ∙ act-Foreach scene.program.now scene.agents.now c.in-Foreach.class c.in-Foreach.bounds c.in-Foreach.body c.in-Foreach.field-3 here in
    subst (λ (d : Deed). Adds scene d c.args.answer.now c.iterations.new.answer)
    (sym (does ∙ loop-near scene here c.in-Foreach.class c.in-Foreach.bounds c.in-Foreach.body)) c.in_ok-iterations-in-Foreach.ensures.added

pub action-returns-in_ok-push-in-Some-3-clause-added : goal.action-returns-in_ok-push-in-Some-3-clause-added
action-returns-in_ok-push-in-Some-3-clause-added t c =
    let here = scope_at c.args.scene.now c.args.seat.now c.args.desk.now.drawer.seed c.args.locals.now in
    let scene = c.args.scene.now in
    let f : Value → Deed = saying here (agent_of here c.in-Assign.who) c.in-Assign.effect in
    let does = ap (λ (x : Action). act_in scene x here) c.in-Assign.is ∙ act-Assign scene.program.now scene.agents.now c.in-Assign.who c.in-Assign.effect c.in-Assign.code here in
    let last : Answer = record { said = c.push.new.self; fault = c.worth-in-Assign.new.answer.fault } in
    let at = c.named.ensures.placed ∙ ap (λ (a : Agent). Some a) (c.named.ensures.agent c.args.desk.now.drawer.seed c.args.locals.now) in
    subst (λ (d : Deed). Adds scene d c.args.answer.now last) (sym does)
    (adds-value scene here (gives c.in-Assign.code here) f c.in-Some-3.value c.args.answer.now c.worth-in-Assign.new.answer last
    (sym c.in_ok-value-in-Assign.ensures.value ∙ c.in-Some-3.is) c.in_ok-value-in-Assign.ensures.added
    (adds-saying scene here (agent_of here c.in-Assign.who) c.named.result.place c.in-Assign.effect c.in-Some-3.value c.worth-in-Assign.new.answer last
    at c.in_ok-push-in-Some-3.ensures.items refl))

pub block-returns-then-branch : goal.block-returns-then-branch
block-returns-then-branch t c =
    let scene = c.args.scene.now in
    let seed = c.args.desk.now.drawer.seed in
    let here = scope_at scene c.args.seat.now seed c.loop-item.locals in
    let s = c.item-item.result in
    let same : scope_at scene c.args.seat.now c.loop-item.desk.drawer.seed c.loop-item.locals ≡ here = ap (λ (n : ℕ). scope_at scene c.args.seat.now n c.loop-item.locals) c.loop-item.invariant.seed in
    let cut : (act_in scene s here).stopped ≡ true = ap (λ (p : Scope). (act_in scene s p).stopped) (sym same) ∙ sym c.in_ok-action.ensures.stopped ∙ c.if-branch.true in
    let whole = halts scene _ c.args.body.now c.loop-item.item-index s c.as_slice-item-items.ensures c.loop-item-test.true c.item-item.is here cut in
    let (trail, locals) = c.set_back.ensures c.args.desk.now.trail.items c.args.locals.now
    (search rules)
    (sets-then _ _ _ _ _ _ c.loop-item.invariant.set c.in_ok-action.ensures.set) in
    record {
      added = c.loop-item.invariant.rest c.action.new.answer
          (subst (λ (d : Deed). Adds scene d c.loop-item.answer c.action.new.answer) (sym whole)
          (subst (λ (p : Scope). Adds scene (act_in scene s p) c.loop-item.answer c.action.new.answer) same c.in_ok-action.ensures.added));
      stopped = sym (sym c.loop-item.invariant.stopped ∙ ap (λ (d : Deed). d.stopped) whole ∙ cut);
      locals = locals;
      trail = trail;
      seed = c.in_ok-action.ensures.seed ∙ c.loop-item.invariant.seed;
    }

pub block-loop-item-preserved : goal.block-loop-item-preserved
block-loop-item-preserved t c =
    let scene = c.args.scene.now in
    let seed = c.args.desk.now.drawer.seed in
    let here = scope_at scene c.args.seat.now seed c.loop-item.locals in
    let next = scope_at scene c.args.seat.now seed c.action.new.locals in
    let s = c.item-item.result in
    let rest = block_in scene (drop (c.loop-item.item-index + 1) c.args.body.now) next in
    let same : scope_at scene c.args.seat.now c.loop-item.desk.drawer.seed c.loop-item.locals ≡ here = ap (λ (n : ℕ). scope_at scene c.args.seat.now n c.loop-item.locals) c.loop-item.invariant.seed in
    let on : (act_in scene s here).stopped ≡ false = ap (λ (p : Scope). (act_in scene s p).stopped) (sym same) ∙ sym c.in_ok-action.ensures.stopped ∙ c.if-branch.false in
    let left : (act_in scene s here).scope ≡ next =
    ap (λ (p : Scope). (act_in scene s p).scope) (sym same) ∙ c.in_ok-action.ensures.scope c.if-branch.false
    ∙ ap (λ (n : ℕ). scope_at scene c.args.seat.now n c.action.new.locals) c.loop-item.invariant.seed in
    let whole = goes_on scene _ c.args.body.now c.loop-item.item-index s c.as_slice-item-items.ensures c.loop-item-test.true c.item-item.is here next on left in
    let added : Adds scene (act_in scene s here) c.loop-item.answer c.action.new.answer =
    subst (λ (p : Scope). Adds scene (act_in scene s p) c.loop-item.answer c.action.new.answer) same c.in_ok-action.ensures.added in
    record {
      rest = λ z h. c.loop-item.invariant.rest z
          (subst (λ (d : Deed). Adds scene d c.loop-item.answer z) (sym whole)
          (adds-then scene (act_in scene s here) rest c.loop-item.answer c.action.new.answer z added h));
      stopped = sym (ap (λ (d : Deed). d.stopped) whole) ∙ c.loop-item.invariant.stopped;
      set = sets-then _ _ _ _ _ _ c.loop-item.invariant.set c.in_ok-action.ensures.set;
      seed = c.in_ok-action.ensures.seed ∙ c.loop-item.invariant.seed;
    }

pub block-returns-clause-added : goal.block-returns-clause-added
block-returns-clause-added t c =
    let scene = c.args.scene.now in
    let here = scope_at scene c.args.seat.now c.args.desk.now.drawer.seed c.loop-item.locals in
    let over : length c.args.body.now ≤ c.loop-item.item-index = subst (λ (l : List Action). length l ≤ c.loop-item.item-index) c.as_slice-item-items.ensures c.loop-item-test.false in
    c.loop-item.invariant.rest c.loop-item.answer
    (subst (λ (l : List Action). Adds scene (block_in scene l here) c.loop-item.answer c.loop-item.answer) (sym (drop_all c.loop-item.item-index c.args.body.now over))
    (adds-nothing scene here c.loop-item.answer))

pub block-returns-clause-locals : goal.block-returns-clause-locals
block-returns-clause-locals t c =
    (c.set_back-2.ensures c.args.desk.now.trail.items c.args.locals.now (search rules)
    c.loop-item.invariant.set).1

pub block-returns-clause-trail : goal.block-returns-clause-trail
block-returns-clause-trail t c =
    (c.set_back-2.ensures c.args.desk.now.trail.items c.args.locals.now (search rules)
    c.loop-item.invariant.set).0

pub iteration-returns-in_ok-block-clause-added : goal.iteration-returns-in_ok-block-clause-added
iteration-returns-in_ok-block-clause-added t c =
    let scene = c.args.scene.now in
    let here = scope_at scene c.args.seat.now c.args.desk.now.drawer.seed c.args.locals.now in
    let x = c.args.other.now.agent.now in
    let deed : Deed = block_in scene c.args.body.now (inside here x) in
    let some : is_taken scene here c.args.taken.class c.args.taken.bounds.now x ≡ true = sym (c.is_taken.ensures c.args.desk.now.drawer.seed) ∙ c.if-is_taken.true in
    let added : Adds scene deed c.args.answer.now c.block.new.answer =
    subst (λ (p : Scope). Adds scene (block_in scene c.args.body.now p) c.args.answer.now c.block.new.answer)
    (c.inside-inside.ensures.scope c.args.desk.now.drawer.seed c.args.locals.now) c.in_ok-block.ensures.added in
    subst (λ (b : Bool). Adds scene (iterated here (map (λ y. block_in scene c.args.body.now (inside here y)) (cond b (x ∷ []) []))) c.args.answer.now c.block.new.answer)
    (sym some)
    (adds-alike scene deed (iterated here (deed ∷ [])) c.args.answer.now c.block.new.answer (sym (append-nil deed.said)) (sym (append-nil deed.faults)) added)

pub iteration-returns-else-is_taken-clause-added : goal.iteration-returns-else-is_taken-clause-added
iteration-returns-else-is_taken-clause-added t c =
    let scene = c.args.scene.now in
    let here = scope_at scene c.args.seat.now c.args.desk.now.drawer.seed c.args.locals.now in
    let none : is_taken scene here c.args.taken.class c.args.taken.bounds.now c.args.other.now.agent.now ≡ false = sym (c.is_taken.ensures c.args.desk.now.drawer.seed) ∙ c.if-is_taken.false in
    subst (λ (b : Bool). Adds scene (iterated here (map (λ x. block_in scene c.args.body.now (inside here x)) (cond b (c.args.other.now.agent.now ∷ []) []))) c.args.answer.now c.args.answer.now)
    (sym none) (adds-nothing scene here c.args.answer.now)

pub iterations-returns-clause-added : goal.iterations-returns-clause-added
iterations-returns-clause-added t c =
    let scene = c.args.scene.now in
    let seed = c.args.desk.now.drawer.seed in
    let here = scope_at scene c.args.seat.now seed c.args.locals.now in
    let d = c.args.seat.now.this.agent.now in
    same-visits scene here c.args.taken.class c.args.taken.bounds.now c.args.body.now (agents_at scene d c.find.new.near.items) scene.agents.now
    c.args.answer.now c.visits.new.answer (c.in_ok-in_sight.ensures.taken seed c.args.taken.class d)
    (subst (λ (l : List ℕ). Adds scene (loop_in scene here c.args.taken.class c.args.taken.bounds.now c.args.body.now (agents_at scene d l)) c.args.answer.now c.visits.new.answer)
    c.as_slice.ensures.value (c.in_ok-visits.ensures.added d))

pub visits-loop-place-preserved : goal.visits-loop-place-preserved
visits-loop-place-preserved t c =
    let scene = c.args.scene.now in
    let seat = c.args.seat.now in
    let first = c.args.desk.now.drawer.seed in
    let here = scope_at scene seat first c.args.locals.now in
    let k = c.loop-place.place-index in
    let near : List ℕ = c.args.near.now in
    let i : ℕ = get_or near k 0 in
    let x : Agent = get_or scene.agents.now i c.index-scene-place.result in
    let within : i < length scene.agents.now = c.requires.near k 0 c.loop-place-test.true in
    let same : scope_at scene seat c.loop-place.desk.drawer.seed c.loop-place.locals ≡ here =
    ap (λ (n : ℕ). scope_at scene seat n c.loop-place.locals) c.loop-place.invariant.seed
    ∙ ap (λ (l : List Value). scope_at scene seat first l) c.loop-place.invariant.locals in
    let added : Adds scene (loop_in scene here c.args.taken.class c.args.taken.bounds.now c.args.body.now (x ∷ [])) c.loop-place.answer c.iteration.new.answer =
    subst (λ (p : Scope). Adds scene (loop_in scene p c.args.taken.class c.args.taken.bounds.now c.args.body.now (x ∷ [])) c.loop-place.answer c.iteration.new.answer)
    same c.in_ok-iteration.ensures.added in
    record {
      rest = λ d z h. c.loop-place.invariant.rest d z
          (visit scene here c.args.taken.class c.args.taken.bounds.now c.args.body.now near k d x c.loop-place.answer c.iteration.new.answer z
          c.loop-place-test.true (any-default scene.agents.now i c.index-scene-place.result d within) added h);
      locals = c.in_ok-iteration.ensures.locals ∙ c.loop-place.invariant.locals;
      trail = c.in_ok-iteration.ensures.trail ∙ c.loop-place.invariant.trail;
      seed = c.in_ok-iteration.ensures.seed ∙ c.loop-place.invariant.seed;
    }

pub visits-returns-clause-added : goal.visits-returns-clause-added
visits-returns-clause-added t c d =
    let scene = c.args.scene.now in
    let here = scope_at scene c.args.seat.now c.args.desk.now.drawer.seed c.args.locals.now in
    c.loop-place.invariant.rest d c.loop-place.answer
    (subst (λ (l : List ℕ). Adds scene (loop_in scene here c.args.taken.class c.args.taken.bounds.now c.args.body.now (agents_at scene d l)) c.loop-place.answer c.loop-place.answer)
    (sym (drop_all c.loop-place.place-index c.args.near.now c.loop-place-test.false)) (adds-nothing scene here c.loop-place.answer))
