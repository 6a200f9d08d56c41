use Rattle.std.proofs.Common.{rules}
use Rattle.brace_code.proofs.LaneLemmas.{put_more}
use Rattle.brace_code.proofs.splitting.put_each.Goals as goal

pub loop-k-preserved : goal.loop-k-preserved
loop-k-preserved c = put_more c.args.numbers.now c.args.words.now c.loop-k.k c.args.out.now
    c.loop-k.out _ _ (search rules) (search rules) (search rules) (search rules)
    c.loop-k.invariant
