use Rattle.std.proofs.Common.{◌≡◌, ◌∙◌, ◌++◌, ◌∷◌, [], List, Some, ap, sym}
use Rattle.std.proofs.lemmas.Result.{err_from_is_err_and}
use Rattle.brace_model.specs.declared.world.Parent.{Parent}
use Rattle.brace_wire.specs.inner.Reading.{many_at, parent_at}
use Rattle.brace_wire.proofs.Loops.{goes_on, ends, is_done}
use Rattle.brace_wire.proofs.parts.read_many_parents.Goals as goal

pub returns-in_err-p : goal.returns-in_err-p
returns-in_err-p c =
    let p = err_from_is_err_and c.from_residual.result c.from_residual.ensures.1 in
    rw (p.1, p.2) (ends parent_at c.in_err-p.field-0.0 c.loop.parents.items c.args.count c.loop.counter c.loop.rest.now (many_at parent_at c.args.count c.args.bytes.now) c.loop-test.true c.in_err-p.ensures c.loop.invariant)

pub loop-preserved : goal.loop-preserved
loop-preserved c =
    let x = c.in_ok-p.p in
    let e : c.push.new.self.items ≡ c.loop.parents.items ++ x ∷ [] = c.in_ok-push.ensures.items in
    rw e (goes_on parent_at c.loop.parents.items c.args.count c.loop.counter c.loop.rest.now x c.in_ok-p.after.now (many_at parent_at c.args.count c.args.bytes.now) c.loop-test.true c.in_ok-p.ensures c.loop.invariant)

pub returns : goal.returns
returns c =
    is_done parent_at c.loop.parents.items c.args.count c.loop.counter c.loop.rest.now (many_at parent_at c.args.count c.args.bytes.now) c.loop-test.false c.loop.invariant
    ∙ ap (λ (l : List Parent). Some (l, c.loop.rest.now)) (sym c.from_vec.ensures)
