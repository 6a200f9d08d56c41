use Rattle.std.proofs.Common.{◌≡◌, ◌+◌, ◌-◌, true, length}
use Rattle.brace_balance.specs.Loads.{never_falls}
use Rattle.brace_balance.specs.Fillings.{filled}
use Rattle.brace_balance.proofs.fill.count_filled.Given as goal

abbrev pub invariant-loop-i : goal.invariant-loop-i
invariant-loop-i l = record {
  sorted : never_falls l.rest ≡ true;
  counted : l.i + length (filled l.n (l.most - l.i) l.rest) ≡ length (filled l.n l.most l.fn.xs);
}
