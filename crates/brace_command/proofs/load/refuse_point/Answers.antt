use Rattle.brace_command.specs.Messages.{point_message}
use Rattle.brace_command.proofs.PointLemmas.{refused_point}
use Rattle.brace_command.proofs.load.refuse_point.Goals as goal

pub returns-in_default : goal.returns-in_default
returns-in_default c =
    refused_point c.args.name.now c.args.fault c.refuse.result c.in_default.not-NoMemory
    (c.refuse.ensures.owed (point_message c.args.name.now c.args.fault) c.point_message.ensures)
