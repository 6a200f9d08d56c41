use Rattle.brace_code.specs.Columns.{ArePut}
use Rattle.brace_code.proofs.splitting.put_each.Given as goal

abbrev pub invariant-loop-k : goal.invariant-loop-k
invariant-loop-k l = ArePut l.numbers l.words l.k l.initial.out l.out
