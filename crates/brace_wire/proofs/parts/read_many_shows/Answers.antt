use Rattle.std.proofs.Common.{◌≡◌, ◌∙◌, ◌++◌, ◌∷◌, [], List, Some, ap, sym}
use Rattle.std.proofs.lemmas.Result.{err_from_is_err_and}
use Rattle.brace_pieces.specs.declared.piece.Shown.{Shown}
use Rattle.brace_wire.specs.inner.Reading.{many_at, shown_at}
use Rattle.brace_wire.proofs.Loops.{goes_on, ends, is_done}
use Rattle.brace_wire.proofs.parts.read_many_shows.Goals as goal

pub returns-in_err-s : goal.returns-in_err-s
returns-in_err-s c =
    let p = err_from_is_err_and c.from_residual.result c.from_residual.ensures.1 in
    rw (p.1, p.2) (ends (shown_at c.args.types.now) c.in_err-s.field-0.0 c.loop.shows.items c.args.count c.loop.counter c.loop.rest.now (many_at (shown_at c.args.types.now) c.args.count c.args.bytes.now) c.loop-test.true c.in_err-s.ensures c.loop.invariant)

pub loop-preserved : goal.loop-preserved
loop-preserved c =
    let x = c.in_ok-s.s in
    let e : c.push.new.self.items ≡ c.loop.shows.items ++ x ∷ [] = c.in_ok-push.ensures.items in
    rw e (goes_on (shown_at c.args.types.now) c.loop.shows.items c.args.count c.loop.counter c.loop.rest.now x c.in_ok-s.after.now (many_at (shown_at c.args.types.now) c.args.count c.args.bytes.now) c.loop-test.true c.in_ok-s.ensures c.loop.invariant)

pub returns : goal.returns
returns c =
    is_done (shown_at c.args.types.now) c.loop.shows.items c.args.count c.loop.counter c.loop.rest.now (many_at (shown_at c.args.types.now) c.args.count c.args.bytes.now) c.loop-test.false c.loop.invariant
    ∙ ap (λ (l : List Shown). Some (l, c.loop.rest.now)) (sym c.from_vec.ensures)
