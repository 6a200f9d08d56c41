use Rattle.std.proofs.Common.{◌≡◌, ◌∙◌, ◌++◌, ◌∷◌, [], List, Some, ap, sym}
use Rattle.std.proofs.lemmas.Result.{err_from_is_err_and}
use Rattle.brace_comb.specs.declared.entry.Entry.{Entry}
use Rattle.brace_wire.specs.inner.Reading.{many_at, entry_at}
use Rattle.brace_wire.proofs.Loops.{goes_on, ends, is_done}
use Rattle.brace_wire.proofs.parts.read_many_entries.Goals as goal

pub returns-in_err-e : goal.returns-in_err-e
returns-in_err-e c =
    let p = err_from_is_err_and c.from_residual.result c.from_residual.ensures.1 in
    rw (p.1, p.2) (ends entry_at c.in_err-e.field-0.0 c.loop.entries.items c.args.count c.loop.counter c.loop.rest.now (many_at entry_at c.args.count c.args.bytes.now) c.loop-test.true c.in_err-e.ensures c.loop.invariant)

pub loop-preserved : goal.loop-preserved
loop-preserved c =
    let x = c.in_ok-e.e in
    let e : c.push.new.self.items ≡ c.loop.entries.items ++ x ∷ [] = c.in_ok-push.ensures.items in
    rw e (goes_on entry_at c.loop.entries.items c.args.count c.loop.counter c.loop.rest.now x c.in_ok-e.after.now (many_at entry_at c.args.count c.args.bytes.now) c.loop-test.true c.in_ok-e.ensures c.loop.invariant)

pub returns : goal.returns
returns c =
    is_done entry_at c.loop.entries.items c.args.count c.loop.counter c.loop.rest.now (many_at entry_at c.args.count c.args.bytes.now) c.loop-test.false c.loop.invariant
    ∙ ap (λ (l : List Entry). Some (l, c.loop.rest.now)) (sym c.from_vec.ensures)
