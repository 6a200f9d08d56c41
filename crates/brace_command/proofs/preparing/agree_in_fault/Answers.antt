use Rattle.std.proofs.Common.{◌∙◌, refl}
use Rattle.std.specs.Prelude.{Some}
use Rattle.std.proofs.lemmas.Result.{err_from_is_err_and}
use Rattle.brace_command.specs.Answer.{sink_call}
use Rattle.brace_command.specs.Outcome.{agreed}
use Rattle.brace_command.proofs.AnswerLemmas.{unwritten_written, rose_before, front_all}
use Rattle.brace_command.proofs.preparing.agree_in_fault.Goals as goal

pub returns-in_err-flush-clause-written : goal.returns-in_err-flush-clause-written
returns-in_err-flush-clause-written g c =
    let p = err_from_is_err_and c.from_residual-in_err-flush.result c.from_residual-in_err-flush.ensures.1 in
    let gains = c.in_err-flush.ensures.same ∙ c.in_ok-write_whole.ensures.all in
    rw (p.1, p.2) (unwritten_written (agreed (Some c.args.fault.now)) (sink_call g.O.Sink c.args.out.now c.flush.new.self) refl (rose_before _ _ _ c.in_ok-write_whole.ensures.never_falls c.in_err-flush.ensures.rose) (front_all _ _ _ gains))

pub returns-clause-written : goal.returns-clause-written
returns-clause-written g c files shelf told held = record {
  one = agreed (Some c.args.fault.now);
  is = refl;
  holds = record { ends = refl; gained = c.in_ok-flush.ensures.same ∙ c.in_ok-write_whole.ensures.all; holds = held ∙ told; says = c.in_ok-message.ensures };
}
