use Rattle.brace_desk.specs.Shows.{file_name}
use Rattle.brace_command.specs.Messages.{save_fault_message}
use Rattle.brace_top.proofs.settle.unsaved.Goals as goal

pub returns-in-Some : goal.returns-in-Some
returns-in-Some c = rw c.in-Some.is (c.refuse.ensures.owed (save_fault_message (file_name c.in-Some.name.now c.args.tick)) c.save_fault_message.ensures)
