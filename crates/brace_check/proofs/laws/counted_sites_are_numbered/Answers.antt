use Rattle.brace_check.proofs.Told.{counted_sites}
use Rattle.brace_check.proofs.laws.counted_sites_are_numbered.Goals as goal

pub returns : goal.returns
returns c r = counted_sites r.tree
