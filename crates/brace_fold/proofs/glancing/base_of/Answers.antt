use Rattle.brace_fold.proofs.Glances.{based}
use Rattle.brace_fold.proofs.glancing.base_of.Goals as goal

pub returns : goal.returns
returns c = λ p r v range. based p r c.args.v c.args.range c.ranges.v c.ranges.range v range
