use Rattle.std.proofs.Common.{rules}
use Rattle.brace_code.proofs.LaneLemmas.{numbers_more}
use Rattle.brace_code.proofs.splitting.put_numbers.Goals as goal

pub loop-k-preserved : goal.loop-k-preserved
loop-k-preserved c = record {
  within = search rules;
  long = search rules;
  so_far = numbers_more c.args.set c.args.test.now c.loop-k.k _ _ c.on_side.result
      (search rules) (search rules) c.loop-k.invariant.so_far;
}
