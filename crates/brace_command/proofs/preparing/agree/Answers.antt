use Rattle.std.proofs.Common.{◌≡◌, sym, subst, Option}
use Rattle.brace_model.specs.declared.fault.Fault.{Fault}
use Rattle.brace_command.specs.Answer.{sink_call}
use Rattle.brace_command.specs.Outcome.{agreed}
use Rattle.brace_command.specs.Settled.{IsWritten, message_in, status_in}
use Rattle.brace_command.proofs.preparing.agree.Goals as goal

pub returns-in-None-clause-written : goal.returns-in-None-clause-written
returns-in-None-clause-written g c =
    subst (λ (found : Option Fault). IsWritten (λ o. o ≡ agreed found) (sink_call g.O.Sink c.args.out.now c.write_text.new.out) (message_in c.write_text.result) (status_in c.write_text.result))
    (sym c.in-None.is) c.write_text.ensures.written

pub returns-in-Some-clause-written : goal.returns-in-Some-clause-written
returns-in-Some-clause-written g c =
    subst (λ (found : Option Fault). IsWritten (λ o. o ≡ agreed found) (sink_call g.O.Sink c.args.out.now c.agree_in_fault.new.out) (message_in c.agree_in_fault.result) (status_in c.agree_in_fault.result))
    (sym c.in-Some.is) c.agree_in_fault.ensures.written
