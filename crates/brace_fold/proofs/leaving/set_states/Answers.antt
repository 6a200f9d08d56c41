use Rattle.std.proofs.Common.{rules}
use Rattle.brace_fold.proofs.LeavingLemmas.{set-all}
use Rattle.brace_fold.proofs.leaving.set_states.Goals as goal

pub returns : goal.returns
returns c = set-all c.args.columns.now c.args.row c.args.states.now c.loop-i.states (search rules) c.requires (search rules)
