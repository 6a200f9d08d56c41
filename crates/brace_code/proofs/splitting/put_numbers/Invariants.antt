use Rattle.std.proofs.Common.{◌≡◌, ◌≤◌, length, take}
use Rattle.brace_code.specs.Columns.{AreNumbers}
use Rattle.brace_code.proofs.splitting.put_numbers.Given as goal

abbrev pub invariant-loop-k : goal.invariant-loop-k
invariant-loop-k l = record {
  within : l.place ≤ l.k;
  long : length l.out ≡ length l.test;
  so_far : AreNumbers l.set l.test l.k (take l.place l.out);
}
