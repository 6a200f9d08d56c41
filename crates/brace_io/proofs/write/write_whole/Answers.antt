use Rattle.std.proofs.Common.{◌+◌, rules, arith}
use Rattle.brace_io.specs.Sinks.{GainsFront}
use Rattle.brace_io.proofs.WholeLemmas.{front-then, to_end, rest-within}
use Rattle.brace_io.proofs.write.write_whole.Goals as goal

pub loop-done-preserved : goal.loop-done-preserved
loop-done-preserved g c =
    let i = c.loop-done.invariant in
    let rest = to_end c.loop-done.done c.args.piece.now i.within in
    let e = c.in_ok-n.ensures in
    record {
      within = rest-within c.loop-done.done c.in_ok-n.n c.args.piece.now i.within e.within;
      so_far = front-then _ _ _ c.loop-done.done c.in_ok-n.n c.args.piece.now i.so_far (rw rest at e.adds);
      unclean = λ _. e.unclean;
      same = λ none. absurd (omega (arith, none, c.if-n-eq0.false));
      faults = omega (arith, i.faults, e.never_falls);
    }

pub returns-in_err-n-clause-front : goal.returns-in_err-n-clause-front
returns-in_err-n-clause-front g c =
    let i = c.loop-done.invariant in
    let (n, (within, gains)) = c.in_err-n.ensures.adds_front in
    let rest = to_end c.loop-done.done c.args.piece.now i.within in
    let front : GainsFront (g.O.Sink.written c.args.out.now) (g.O.Sink.written c.write.new.self) c.args.piece.now =
    (c.loop-done.done + n, (rest-within c.loop-done.done n c.args.piece.now i.within within, front-then _ _ _ c.loop-done.done n c.args.piece.now i.so_far (rw rest at gains))) in
    search rules
