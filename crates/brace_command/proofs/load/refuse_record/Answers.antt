use Rattle.brace_command.specs.Messages.{record_message}
use Rattle.brace_command.proofs.load.refuse_record.Goals as goal

pub returns-in-Bad : goal.returns-in-Bad
returns-in-Bad c = rw c.in-Bad.is (c.refuse.ensures.owed (record_message c.args.name.now c.in-Bad.number c.in-Bad.kind) c.record_message.ensures)
