use Rattle.brace_command.specs.Messages.{line_message, plan_word}
use Rattle.brace_command.proofs.load.refuse_line.Goals as goal

pub returns-in-Bad : goal.returns-in-Bad
returns-in-Bad c =
    rw c.in-Bad.is (c.refuse.ensures.owed (line_message c.args.name.now c.in-Bad.number (plan_word c.in-Bad.kind)) (rw c.plan_word.ensures at c.line_message-message.ensures))
