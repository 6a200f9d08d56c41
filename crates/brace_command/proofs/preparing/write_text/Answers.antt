use Rattle.std.proofs.Common.{◌≡◌, subst, List, ℕ}
use Rattle.brace_command.specs.Answer.{sink_call}
use Rattle.brace_command.specs.Outcome.{told}
use Rattle.brace_command.specs.Settled.{IsWritten, message_in, status_in}
use Rattle.brace_command.proofs.preparing.write_text.Goals as goal

pub returns-clause-written : goal.returns-clause-written
returns-clause-written g c =
    subst (λ (m : List ℕ). IsWritten (λ o. o ≡ told c.args.text.now m) (sink_call g.O.Sink c.args.out.now c.write_told.new.out) (message_in c.write_told.result) (status_in c.write_told.result))
    c.new.ensures.items c.write_told.ensures.written
