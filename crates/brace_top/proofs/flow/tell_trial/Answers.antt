use Rattle.std.proofs.Common.{◌∙◌, refl, ap, subst, ℕ, List}
use Rattle.std.proofs.lemmas.Result.{err_from_is_err_and}
use Rattle.brace_io.specs.Sinks.{with_piece, GainsFront}
use Rattle.brace_command.specs.Answer.{sink_call}
use Rattle.brace_command.proofs.AnswerLemmas.{told_written, unwritten_written, rose_before, front_all}
use Rattle.brace_top.proofs.flow.tell_trial.Goals as goal

pub returns-in_err-write_whole-clause-written : goal.returns-in_err-write_whole-clause-written
returns-in_err-write_whole-clause-written g c =
    let p = err_from_is_err_and c.from_residual-in_err-write_whole.result c.from_residual-in_err-write_whole.ensures.1 in
    let line = c.as_slice.ensures.value ∙ c.in_ok-line.ensures in
    rw (p.1, p.2) (unwritten_written _ (sink_call g.O.Sink c.args.out.now c.write_whole.new.out) refl c.in_err-write_whole.ensures.rose
    (subst (λ (t : List ℕ). GainsFront (g.O.Sink.written c.args.out.now) (g.O.Sink.written c.write_whole.new.out) t) line c.in_err-write_whole.ensures.front))

pub returns-in_err-flush-clause-written : goal.returns-in_err-flush-clause-written
returns-in_err-flush-clause-written g c =
    let p = err_from_is_err_and c.from_residual-in_err-flush.result c.from_residual-in_err-flush.ensures.1 in
    let line = c.as_slice.ensures.value ∙ c.in_ok-line.ensures in
    let gains = c.in_err-flush.ensures.same ∙ c.in_ok-write_whole.ensures.all ∙ ap (with_piece (g.O.Sink.written c.args.out.now)) line in
    rw (p.1, p.2) (unwritten_written _ (sink_call g.O.Sink c.args.out.now c.flush.new.self) refl (rose_before _ _ _ c.in_ok-write_whole.ensures.never_falls c.in_err-flush.ensures.rose) (front_all _ _ _ gains))

pub returns-clause-written : goal.returns-clause-written
returns-clause-written g c =
    let line = c.as_slice.ensures.value ∙ c.in_ok-line.ensures in
    let gains = c.in_ok-flush.ensures.same ∙ c.in_ok-write_whole.ensures.all ∙ ap (with_piece (g.O.Sink.written c.args.out.now)) line in
    told_written _ (sink_call g.O.Sink c.args.out.now c.flush.new.self) _ c.in_ok-answer.answer c.in_ok-answer.ensures refl refl gains refl
