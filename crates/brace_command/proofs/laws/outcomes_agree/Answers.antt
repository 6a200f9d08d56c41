use Rattle.brace_command.specs.Commands.{command_of}
use Rattle.brace_command.proofs.OneOutcome.{commands_agree}
use Rattle.brace_command.proofs.laws.outcomes_agree.Goals as goal

pub returns-clause-status : goal.returns-clause-status
returns-clause-status c words files o p e f = (commands_agree files (command_of words) o p e f).status

pub returns-clause-out : goal.returns-clause-out
returns-clause-out c words files o p e f = (commands_agree files (command_of words) o p e f).out

pub returns-clause-err : goal.returns-clause-err
returns-clause-err c words files o p e f = (commands_agree files (command_of words) o p e f).err

pub returns-clause-saved : goal.returns-clause-saved
returns-clause-saved c words files o p e f = (commands_agree files (command_of words) o p e f).saved
