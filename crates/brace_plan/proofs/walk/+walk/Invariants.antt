use Rattle.std.proofs.Common.{◌≡◌, drop}
use Rattle.brace_model.specs.declared.world.Agent.{Agent}
use Rattle.brace_plan.specs.declared.answer.Answer.{Answer}
use Rattle.brace_plan.specs.inner.Walks.{scope_at, Sets, Adds, block_in, loop_in, agents_at}
use Rattle.brace_plan.proofs.walk.+walk.Given as goal

abbrev pub invariant-block-loop-item : goal.invariant-block-loop-item
invariant-block-loop-item l =
    let seed = l.fn.desk.drawer.seed in
    let whole = block_in l.scene l.body (scope_at l.scene l.seat seed l.fn.locals) in
    let left = block_in l.scene (drop l.item-index l.body) (scope_at l.scene l.seat seed l.locals) in
    record {
      rest : (z : Answer) → Adds l.scene left l.answer z → Adds l.scene whole l.fn.answer z;
      stopped : left.stopped ≡ whole.stopped;
      set : Sets l.fn.desk.trail.items l.desk.trail.items l.fn.locals l.locals;
      seed : l.desk.drawer.seed ≡ seed;
    }

abbrev pub invariant-visits-loop-place : goal.invariant-visits-loop-place
invariant-visits-loop-place l =
    let here = scope_at l.scene l.seat l.fn.desk.drawer.seed l.fn.locals in
    record {
      rest : (d : Agent) (z : Answer)
          → Adds l.scene (loop_in l.scene here l.taken.class l.taken.bounds.now l.body (agents_at l.scene d (drop l.place-index l.near))) l.answer z
          → Adds l.scene (loop_in l.scene here l.taken.class l.taken.bounds.now l.body (agents_at l.scene d l.near)) l.fn.answer z;
      locals : l.locals ≡ l.fn.locals;
      trail : l.desk.trail.items ≡ l.fn.desk.trail.items;
      seed : l.desk.drawer.seed ≡ l.fn.desk.drawer.seed;
    }
