use Rattle.brace_lanes.proofs.StepsAllowed.{splits}
use Rattle.brace_lanes.proofs.steps.split.Goals as goal

pub split_seat-requires : goal.split_seat-requires
split_seat-requires g c = (c.requires.table, c.requires.words, splits g.F.Cargo.schedule g.F.Cargo.right c.args.first.now.id c.args.first.now.me.0 c.requires.first)
