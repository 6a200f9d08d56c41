use Rattle.std.proofs.Common.{◌≡◌, ◌∙◌, ◌++◌, ◌∷◌, [], List, Some, ap, sym}
use Rattle.std.proofs.lemmas.Result.{err_from_is_err_and}
use Rattle.brace_model.specs.declared.world.Agent.{Agent}
use Rattle.brace_wire.specs.inner.Reading.{many_at, agent_at}
use Rattle.brace_wire.proofs.Loops.{goes_on, ends, is_done}
use Rattle.brace_wire.proofs.parts.read_many_agents.Goals as goal

pub returns-in_err-a : goal.returns-in_err-a
returns-in_err-a c =
    let p = err_from_is_err_and c.from_residual.result c.from_residual.ensures.1 in
    rw (p.1, p.2) (ends (agent_at c.args.types.now) c.in_err-a.field-0.0 c.loop.agents.items c.args.count c.loop.counter c.loop.rest.now (many_at (agent_at c.args.types.now) c.args.count c.args.bytes.now) c.loop-test.true c.in_err-a.ensures c.loop.invariant)

pub loop-preserved : goal.loop-preserved
loop-preserved c =
    let x = c.in_ok-a.a in
    let e : c.push.new.self.items ≡ c.loop.agents.items ++ x ∷ [] = c.in_ok-push.ensures.items in
    rw e (goes_on (agent_at c.args.types.now) c.loop.agents.items c.args.count c.loop.counter c.loop.rest.now x c.in_ok-a.after.now (many_at (agent_at c.args.types.now) c.args.count c.args.bytes.now) c.loop-test.true c.in_ok-a.ensures c.loop.invariant)

pub returns : goal.returns
returns c =
    is_done (agent_at c.args.types.now) c.loop.agents.items c.args.count c.loop.counter c.loop.rest.now (many_at (agent_at c.args.types.now) c.args.count c.args.bytes.now) c.loop-test.false c.loop.invariant
    ∙ ap (λ (l : List Agent). Some (l, c.loop.rest.now)) (sym c.from_vec.ensures)
