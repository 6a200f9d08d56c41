use Rattle.std.proofs.Common.{sym, refl, [], ◌∷◌}
use Rattle.brace_model.specs.Query.{query_fault}
use Rattle.brace_eval.specs.inner.Walks.{scope_at}
use Rattle.brace_eval.proofs.DeedLemmas.{nothing-then, notes-nothing}
use Rattle.brace_eval.proofs.query.worth.Goals as goal

pub returns-in-Err-clause-noted : goal.returns-in-Err-clause-noted
returns-in-Err-clause-noted c scene =
    let here = scope_at c.args.seat.now c.args.ledger.now.drawer.seed c.args.locals.now in
    let first = notes-nothing scene c.args.ledger.now (record c.args.ledger.now { drawer = c.value.new.drawer }) refl in
    let second = rw (c.fault.ensures c.args.ledger.now.drawer.seed c.args.locals.now) at (c.fault-in-Err.ensures.noted scene) in
    rw (sym c.in-Err.ensures.value) (nothing-then scene [] (query_fault here c.in-Err.stop ∷ []) c.args.ledger.now (record c.args.ledger.now { drawer = c.value.new.drawer }) c.fault-in-Err.new.self first second)
