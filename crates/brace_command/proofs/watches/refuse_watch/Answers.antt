use Rattle.brace_command.specs.Messages.{line_message, watch_word}
use Rattle.brace_command.proofs.watches.refuse_watch.Goals as goal

pub returns-in-Bad : goal.returns-in-Bad
returns-in-Bad c =
    rw c.in-Bad.is (c.refuse.ensures.owed (line_message c.args.name.now c.in-Bad.number (watch_word c.in-Bad.kind)) (rw c.watch_word.ensures at c.line_message-message.ensures))
