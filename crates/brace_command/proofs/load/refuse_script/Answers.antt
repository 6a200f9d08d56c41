use Rattle.brace_command.specs.Outcome.{script_message}
use Rattle.brace_command.proofs.load.refuse_script.Goals as goal

pub returns-in-Refused : goal.returns-in-Refused
returns-in-Refused c =
    rw c.in-Refused.is (c.refuse.ensures.owed (script_message c.args.name.now c.args.src.now c.in-Refused.kind c.in-Refused.at)
    (rw (c.line_number-line.ensures, c.column_number-column.ensures, c.word.ensures) at c.placed_message-message.ensures))
