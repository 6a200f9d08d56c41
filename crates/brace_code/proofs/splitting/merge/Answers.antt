use Rattle.brace_code.proofs.LaneLemmas.{sides_merged}
use Rattle.brace_code.proofs.splitting.merge.Goals as goal

pub returns : goal.returns
returns c = sides_merged _ _ _ _ _ _ c.begin.ensures.long c.begin.ensures.set c.begin.ensures.unset
    c.requires.set c.requires.unset c.in_ok-put.ensures c.in_ok-put-2.ensures
