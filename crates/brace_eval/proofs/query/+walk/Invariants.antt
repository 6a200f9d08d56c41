use Rattle.std.proofs.Common.{◌≡◌, false, map, take}
use Rattle.std.specs.List.{filter}
use Rattle.std.specs.Prelude.{◌==◌, ◌&&◌}
use Rattle.brace_model.specs.declared.world.Agent.{Agent}
use Rattle.brace_model.specs.World.{sees}
use Rattle.brace_model.specs.Query.{Deed, statement, block, iterated, inside}
use Rattle.brace_eval.specs.inner.Tables.{NotesDeed}
use Rattle.brace_eval.specs.inner.Walks.{scope_at, undone}
use Rattle.brace_eval.proofs.query.+walk.Given as goal

abbrev pub invariant-statements-loop-s : goal.invariant-statements-loop-s
invariant-statements-loop-s l =
    let start = scope_at l.seat l.fn.ledger.drawer.seed l.fn.locals in
    let deed = block (map (statement l.scene.program.now l.scene.agents.now) (take l.s-index l.body)) start in
    record {
      going : deed.stopped ≡ false;
      scope : deed.scope ≡ scope_at l.seat l.fn.ledger.drawer.seed l.locals;
      noted : NotesDeed l.scene deed l.fn.ledger l.ledger;
      undone : undone l.trail.items l.locals ≡ undone l.fn.trail.items l.fn.locals;
      seed : l.ledger.drawer.seed ≡ l.fn.ledger.drawer.seed;
    }

abbrev pub invariant-iterations-loop-other : goal.invariant-iterations-loop-other
invariant-iterations-loop-other l =
    let start = scope_at l.seat l.fn.ledger.drawer.seed l.fn.locals in
    let deed : Agent → Deed = λ b. block (map (statement l.scene.program.now l.scene.agents.now) l.body) (inside start b) in
    let seen = filter (λ (b : Agent). (b.class == l.class) && sees l.scene.program.now l.seat.this.now b) (take l.other-index l.scene.agents.now) in
    record {
      noted : NotesDeed l.scene (iterated start (map deed seen)) l.fn.ledger l.ledger;
      locals : l.locals ≡ l.fn.locals;
      seed : l.ledger.drawer.seed ≡ l.fn.ledger.drawer.seed;
    }
