use Rattle.std.proofs.Common.{◌≡◌, ◌∙◌, sym, ap, subst, refl, map, take, length, ◌≤◌, ◌+◌, List, Bool, ℕ}
use Rattle.std.specs.Prelude.{IfOk, ◌==◌, ◌&&◌}
use Rattle.std.specs.List.{filter}
use Rattle.std.proofs.lemmas.List.{take_all}
use Rattle.brace_model.specs.declared.program.Value.{Value}
use Rattle.brace_model.specs.declared.program.Stmt.{Stmt}
use Rattle.brace_model.specs.declared.world.Agent.{Agent}
use Rattle.brace_model.specs.World.{sees}
use Rattle.brace_model.specs.Value.{value, agent_of, Scope}
use Rattle.brace_model.specs.Query.{Deed, silent, bound, deed_of, saying, closed, chosen, block, statement, inside, iterated}
use Rattle.brace_eval.specs.declared.ledger.Ledger.{Ledger}
use Rattle.brace_eval.specs.inner.Tables.{NotesDeed}
use Rattle.brace_eval.specs.inner.Walks.{scope_at}
use Rattle.brace_eval.proofs.StatementEquations.{does-Const, does-If, does-Foreach, does-Assign}
use Rattle.brace_eval.proofs.DeedLemmas.{if_ok, chosen-first, chosen-second, worth-then, worth-stops, notes-nothing, seen-more, unseen-more, statement-turn, cut-there, iterated-step}
use Rattle.brace_eval.proofs.query.+walk.Goals as goal
use Rattle.brace_eval.proofs.query.+walk.Goals.{iterations-then-is_taken+in_ok-block, iterations-else-is_taken}

pub statement-returns-in_ok-bind-in-Some-clause-noted : goal.statement-returns-in_ok-bind-in-Some-clause-noted
statement-returns-in_ok-bind-in-Some-clause-noted t c =
    let here = scope_at c.args.seat.now c.args.ledger.now.drawer.seed c.args.locals.now in
    let scene = c.args.scene.now in
    let f : Value → Deed = λ v. silent (bound here c.in-Const.n v) in
    let does = does-Const scene.program.now scene.agents.now c.args.s.now here c.in-Const.n c.in-Const.e c.in-Const.is in
    subst (λ (d : Deed). NotesDeed scene d c.args.ledger.now c.worth.new.ledger) (sym does)
    (worth-then scene here (value c.in-Const.e here) f c.in-Some.v c.args.ledger.now c.worth.new.ledger c.worth.new.ledger
    (sym c.in-Some.ensures.value) (c.in-Some.ensures.noted scene) (notes-nothing scene c.worth.new.ledger c.worth.new.ledger refl))

pub statement-returns-in-None-clause-noted : goal.statement-returns-in-None-clause-noted
statement-returns-in-None-clause-noted t c =
    let here = scope_at c.args.seat.now c.args.ledger.now.drawer.seed c.args.locals.now in
    let scene = c.args.scene.now in
    let f : Value → Deed = λ v. silent (bound here c.in-Const.n v) in
    let does = does-Const scene.program.now scene.agents.now c.args.s.now here c.in-Const.n c.in-Const.e c.in-Const.is in
    subst (λ (d : Deed). NotesDeed scene d c.args.ledger.now c.worth.new.ledger) (sym does)
    (worth-stops scene here (value c.in-Const.e here) f c.args.ledger.now c.worth.new.ledger (sym c.in-None.ensures.value) (c.in-None.ensures.noted scene))

pub statement-returns-then-is_true-clause-noted : goal.statement-returns-then-is_true-clause-noted
statement-returns-then-is_true-clause-noted t c =
    let here = scope_at c.args.seat.now c.args.ledger.now.drawer.seed c.args.locals.now in
    let scene = c.args.scene.now in
    let st = statement scene.program.now scene.agents.now in
    let f : Value → Deed = λ v. closed here (chosen v (block (map st c.in-If.a) here) (block (map st c.in-If.b) here)) in
    let does = does-If scene.program.now scene.agents.now c.args.s.now here c.in-If.condition c.in-If.a c.in-If.b c.in-If.is in
    let way : chosen c.in-Some-worth.v (block (map st c.in-If.a) here) (block (map st c.in-If.b) here) ≡ block (map st c.in-If.a) here =
    chosen-first c.in-Some-worth.v (block (map st c.in-If.a) here) (block (map st c.in-If.b) here) (sym c.is_true.ensures ∙ c.if-is_true.true) in
    subst (λ (d : Deed). IfOk c.block.result (λ x. NotesDeed scene d c.args.ledger.now c.block.new.ledger)) (sym does)
    (if_ok c.block.result _ (λ x. NotesDeed scene (deed_of here (value c.in-If.condition here) f) c.args.ledger.now c.block.new.ledger)
    (λ x second. worth-then scene here (value c.in-If.condition here) f c.in-Some-worth.v c.args.ledger.now c.worth-in-If.new.ledger c.block.new.ledger
    (sym c.in-Some-worth.ensures.value) (c.in-Some-worth.ensures.noted scene)
    (subst (λ (d : Deed). NotesDeed scene (closed here d) c.worth-in-If.new.ledger c.block.new.ledger) (sym way) second))
    (subst (λ (n : ℕ). IfOk c.block.result (λ x. NotesDeed scene (block (map st c.in-If.a) (scope_at c.args.seat.now n c.args.locals.now)) c.worth-in-If.new.ledger c.block.new.ledger))
    c.in-Some-worth.ensures.seed c.block.ensures.noted))

pub statement-returns-else-is_true-clause-noted : goal.statement-returns-else-is_true-clause-noted
statement-returns-else-is_true-clause-noted t c =
    let here = scope_at c.args.seat.now c.args.ledger.now.drawer.seed c.args.locals.now in
    let scene = c.args.scene.now in
    let st = statement scene.program.now scene.agents.now in
    let f : Value → Deed = λ v. closed here (chosen v (block (map st c.in-If.a) here) (block (map st c.in-If.b) here)) in
    let does = does-If scene.program.now scene.agents.now c.args.s.now here c.in-If.condition c.in-If.a c.in-If.b c.in-If.is in
    let way : chosen c.in-Some-worth.v (block (map st c.in-If.a) here) (block (map st c.in-If.b) here) ≡ block (map st c.in-If.b) here =
    chosen-second c.in-Some-worth.v (block (map st c.in-If.a) here) (block (map st c.in-If.b) here) (sym c.is_true.ensures ∙ c.if-is_true.false) in
    subst (λ (d : Deed). IfOk c.block-else-is_true.result (λ x. NotesDeed scene d c.args.ledger.now c.block-else-is_true.new.ledger)) (sym does)
    (if_ok c.block-else-is_true.result _ (λ x. NotesDeed scene (deed_of here (value c.in-If.condition here) f) c.args.ledger.now c.block-else-is_true.new.ledger)
    (λ x second. worth-then scene here (value c.in-If.condition here) f c.in-Some-worth.v c.args.ledger.now c.worth-in-If.new.ledger c.block-else-is_true.new.ledger
    (sym c.in-Some-worth.ensures.value) (c.in-Some-worth.ensures.noted scene)
    (subst (λ (d : Deed). NotesDeed scene (closed here d) c.worth-in-If.new.ledger c.block-else-is_true.new.ledger) (sym way) second))
    (subst (λ (n : ℕ). IfOk c.block-else-is_true.result (λ x. NotesDeed scene (block (map st c.in-If.b) (scope_at c.args.seat.now n c.args.locals.now)) c.worth-in-If.new.ledger c.block-else-is_true.new.ledger))
    c.in-Some-worth.ensures.seed c.block-else-is_true.ensures.noted))

pub statement-returns-in-None-worth-clause-noted : goal.statement-returns-in-None-worth-clause-noted
statement-returns-in-None-worth-clause-noted t c =
    let here = scope_at c.args.seat.now c.args.ledger.now.drawer.seed c.args.locals.now in
    let scene = c.args.scene.now in
    let st = statement scene.program.now scene.agents.now in
    let f : Value → Deed = λ v. closed here (chosen v (block (map st c.in-If.a) here) (block (map st c.in-If.b) here)) in
    let does = does-If scene.program.now scene.agents.now c.args.s.now here c.in-If.condition c.in-If.a c.in-If.b c.in-If.is in
    subst (λ (d : Deed). NotesDeed scene d c.args.ledger.now c.worth-in-If.new.ledger) (sym does)
    (worth-stops scene here (value c.in-If.condition here) f c.args.ledger.now c.worth-in-If.new.ledger (sym c.in-None-worth.ensures.value) (c.in-None-worth.ensures.noted scene))

pub statement-returns-in_ok-iterations-in-Foreach-clause-noted : goal.statement-returns-in_ok-iterations-in-Foreach-clause-noted
statement-returns-in_ok-iterations-in-Foreach-clause-noted t c =
    let here = scope_at c.args.seat.now c.args.ledger.now.drawer.seed c.args.locals.now in
    let scene = c.args.scene.now in
    let st = statement scene.program.now scene.agents.now in
    let does = does-Foreach scene.program.now scene.agents.now c.args.s.now here c.in-Foreach.class c.in-Foreach.body c.in-Foreach.field-2 c.in-Foreach.is in
    subst (λ (d : Deed). NotesDeed scene d c.args.ledger.now c.iterations.new.ledger) (sym does) c.in_ok-iterations-in-Foreach.ensures.noted

pub statement-returns-in_ok-say-in-Some-worth-2-clause-noted : goal.statement-returns-in_ok-say-in-Some-worth-2-clause-noted
statement-returns-in_ok-say-in-Some-worth-2-clause-noted t c =
    let here = scope_at c.args.seat.now c.args.ledger.now.drawer.seed c.args.locals.now in
    let scene = c.args.scene.now in
    let st = statement scene.program.now scene.agents.now in
    let f : Value → Deed = saying here (agent_of here c.in-Assign.who) c.in-Assign.effect in
    let does = does-Assign scene.program.now scene.agents.now c.args.s.now here c.in-Assign.who c.in-Assign.effect c.in-Assign.e c.in-Assign.field-3 c.in-Assign.is in
    let who = c.id_of.ensures c.args.ledger.now.drawer.seed c.args.locals.now in
    subst (λ (d : Deed). NotesDeed scene d c.args.ledger.now c.say.new.self) (sym does)
    (worth-then scene here (value c.in-Assign.e here) f c.in-Some-worth-2.v c.args.ledger.now c.worth-in-Assign.new.ledger c.say.new.self
    (sym c.in-Some-worth-2.ensures.value) (c.in-Some-worth-2.ensures.noted scene) (rw who at c.in_ok-say-in-Some-worth-2.ensures.noted))

pub statement-returns-in-None-worth-2-clause-noted : goal.statement-returns-in-None-worth-2-clause-noted
statement-returns-in-None-worth-2-clause-noted t c =
    let here = scope_at c.args.seat.now c.args.ledger.now.drawer.seed c.args.locals.now in
    let scene = c.args.scene.now in
    let st = statement scene.program.now scene.agents.now in
    let f : Value → Deed = saying here (agent_of here c.in-Assign.who) c.in-Assign.effect in
    let does = does-Assign scene.program.now scene.agents.now c.args.s.now here c.in-Assign.who c.in-Assign.effect c.in-Assign.e c.in-Assign.field-3 c.in-Assign.is in
    subst (λ (d : Deed). NotesDeed scene d c.args.ledger.now c.worth-in-Assign.new.ledger) (sym does)
    (worth-stops scene here (value c.in-Assign.e here) f c.args.ledger.now c.worth-in-Assign.new.ledger (sym c.in-None-worth-2.ensures.value) (c.in-None-worth-2.ensures.noted scene))

pub iterations-loop-other-preserved : goal.iterations-loop-other-preserved
iterations-loop-other-preserved t c =
    let here = scope_at c.args.seat.now c.args.ledger.now.drawer.seed c.args.locals.now in
    let scene = c.args.scene.now in
    let st = statement scene.program.now scene.agents.now in
    let deed : Agent → Deed = λ b. block (map st c.args.body.now) (inside here b) in
    let p : Agent → Bool = λ b. (b.class == c.args.class) && sees scene.program.now c.args.seat.now.this.now b in
    let agents = scene.agents.now in
    let i = c.loop-other.other-index in
    let a = c.other-item.result in
    let old = c.args.ledger.now in
    let es = map deed (filter p (take (i + 1) agents)) in
    elim c.if-is_taken.branch [
      | iterations-then-is_taken+in_ok-block w ↦
          let same : scope_at w.inside.result c.loop-other.ledger.drawer.seed c.loop-other.locals ≡ inside here a =
          w.inside.ensures.scope c.loop-other.ledger.drawer.seed c.loop-other.locals
          ∙ ap (λ (n : ℕ). inside (scope_at c.args.seat.now n c.loop-other.locals) a) c.loop-other.invariant.seed
          ∙ ap (λ (l : List Value). inside (scope_at c.args.seat.now old.drawer.seed l) a) c.loop-other.invariant.locals in
          let second : NotesDeed scene (deed a) c.loop-other.ledger w.block.new.ledger =
          subst (λ (s : Scope). NotesDeed scene (block (map st c.args.body.now) s) c.loop-other.ledger w.block.new.ledger) same w.in_ok-block.ensures.noted in
          let noted : NotesDeed scene (iterated here es) old w.block.new.ledger =
          iterated-step scene here (map deed (filter p (take i agents))) es (deed a) old c.loop-other.ledger w.block.new.ledger
          (seen-more p deed agents i a c.loop-other-test.true c.other-item.is (sym c.is_taken.ensures ∙ w.if-is_taken.true)) c.loop-other.invariant.noted second in
          record {
            noted = subst (λ (l : Ledger). NotesDeed scene (iterated here es) old l) (sym w.ledger-is) noted;
            locals = w.locals-is ∙ w.in_ok-block.ensures.locals ∙ c.loop-other.invariant.locals;
            seed = ap (λ (l : Ledger). l.drawer.seed) w.ledger-is ∙ w.in_ok-block.ensures.seed ∙ c.loop-other.invariant.seed;
          }
      | iterations-else-is_taken w ↦
          let noted : NotesDeed scene (iterated here es) old c.loop-other.ledger =
          subst (λ (ds : List Deed). NotesDeed scene (iterated here ds) old c.loop-other.ledger)
          (sym (unseen-more p deed agents i a c.loop-other-test.true c.other-item.is (sym c.is_taken.ensures ∙ w.if-is_taken.false))) c.loop-other.invariant.noted in
          record {
            noted = subst (λ (l : Ledger). NotesDeed scene (iterated here es) old l) (sym w.ledger-is) noted;
            locals = w.locals-is ∙ c.loop-other.invariant.locals;
            seed = ap (λ (l : Ledger). l.drawer.seed) w.ledger-is ∙ c.loop-other.invariant.seed;
          }
    ]

pub statements-returns-then-branch-clause-noted : goal.statements-returns-then-branch-clause-noted
statements-returns-then-branch-clause-noted t c =
    let turn = statement-turn c.args.scene.now c.args.seat.now c.args.ledger.now.drawer.seed c.args.locals.now c.args.body.now _ c.loop-s.s-index c.s-item.result c.loop-s.locals c.loop-s.ledger.drawer.seed c.in_ok-statement.field-0 c.args.ledger.now c.loop-s.ledger c.statement.new.ledger
    c.as_slice-s-items.ensures c.loop-s-test.true c.s-item.is c.loop-s.invariant.seed c.loop-s.invariant.going c.loop-s.invariant.scope c.loop-s.invariant.noted c.in_ok-statement.ensures.noted c.in_ok-statement.ensures.stopped in
    let whole = cut-there c.args.scene.now c.args.seat.now c.args.ledger.now.drawer.seed c.args.locals.now c.args.body.now (c.loop-s.s-index + 1) (turn.stopped ∙ c.if-branch.true) in
    subst (λ (d : Deed). NotesDeed c.args.scene.now d c.args.ledger.now c.statement.new.ledger) (sym whole) turn.noted

pub statements-returns-then-branch-clause-stopped : goal.statements-returns-then-branch-clause-stopped
statements-returns-then-branch-clause-stopped t c =
    let turn = statement-turn c.args.scene.now c.args.seat.now c.args.ledger.now.drawer.seed c.args.locals.now c.args.body.now _ c.loop-s.s-index c.s-item.result c.loop-s.locals c.loop-s.ledger.drawer.seed c.in_ok-statement.field-0 c.args.ledger.now c.loop-s.ledger c.statement.new.ledger
    c.as_slice-s-items.ensures c.loop-s-test.true c.s-item.is c.loop-s.invariant.seed c.loop-s.invariant.going c.loop-s.invariant.scope c.loop-s.invariant.noted c.in_ok-statement.ensures.noted c.in_ok-statement.ensures.stopped in
    let whole = cut-there c.args.scene.now c.args.seat.now c.args.ledger.now.drawer.seed c.args.locals.now c.args.body.now (c.loop-s.s-index + 1) (turn.stopped ∙ c.if-branch.true) in
    sym (ap (λ (d : Deed). d.stopped) whole ∙ turn.stopped ∙ c.if-branch.true)

pub statements-loop-s-preserved : goal.statements-loop-s-preserved
statements-loop-s-preserved t c =
    let turn = statement-turn c.args.scene.now c.args.seat.now c.args.ledger.now.drawer.seed c.args.locals.now c.args.body.now _ c.loop-s.s-index c.s-item.result c.loop-s.locals c.loop-s.ledger.drawer.seed c.in_ok-statement.field-0 c.args.ledger.now c.loop-s.ledger c.statement.new.ledger
    c.as_slice-s-items.ensures c.loop-s-test.true c.s-item.is c.loop-s.invariant.seed c.loop-s.invariant.going c.loop-s.invariant.scope c.loop-s.invariant.noted c.in_ok-statement.ensures.noted c.in_ok-statement.ensures.stopped in
    record {
      going = turn.stopped ∙ c.if-branch.false;
      scope = turn.scope ∙ c.in_ok-statement.ensures.scope c.if-branch.false
          ∙ ap (λ (n : ℕ). scope_at c.args.seat.now n c.statement.new.locals) c.loop-s.invariant.seed;
      noted = turn.noted;
      undone = c.in_ok-statement.ensures.undone ∙ c.loop-s.invariant.undone;
      seed = c.in_ok-statement.ensures.seed ∙ c.loop-s.invariant.seed;
    }

pub statements-returns-clause-noted : goal.statements-returns-clause-noted
statements-returns-clause-noted t c =
    let scene = c.args.scene.now in
    let st = statement scene.program.now scene.agents.now in
    let start = scope_at c.args.seat.now c.args.ledger.now.drawer.seed c.args.locals.now in
    let body : List Stmt = c.args.body.now in
    let over : length body ≤ c.loop-s.s-index = subst (λ (l : List Stmt). length l ≤ c.loop-s.s-index) c.as_slice-s-items.ensures c.loop-s-test.false in
    subst (λ (l : List Stmt). NotesDeed scene (block (map st l) start) c.args.ledger.now c.loop-s.ledger) (take_all c.loop-s.s-index body over) c.loop-s.invariant.noted

pub iterations-returns-clause-noted : goal.iterations-returns-clause-noted
iterations-returns-clause-noted t c =
    let scene = c.args.scene.now in
    let st = statement scene.program.now scene.agents.now in
    let here = scope_at c.args.seat.now c.args.ledger.now.drawer.seed c.args.locals.now in
    let deed : Agent → Deed = λ b. block (map st c.args.body.now) (inside here b) in
    let p : Agent → Bool = λ b. (b.class == c.args.class) && sees scene.program.now c.args.seat.now.this.now b in
    subst (λ (l : List Agent). NotesDeed scene (iterated here (map deed (filter p l))) c.args.ledger.now c.loop-other.ledger)
    (take_all c.loop-other.other-index scene.agents.now c.loop-other-test.false) c.loop-other.invariant.noted
