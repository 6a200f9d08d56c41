use Rattle.brace_fold.proofs.Crowdings.{number-words}
use Rattle.brace_fold.proofs.crowd.constant.Goals as goal

pub returns-in_default : goal.returns-in_default
returns-in_default c = number-words c.args.ty c.args.words c.in_default.not-Bool
