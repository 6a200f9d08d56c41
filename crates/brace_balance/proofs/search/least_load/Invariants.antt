use Rattle.std.proofs.Common.{◌-◌, ◌<◌, ◌≤◌, length}
use Rattle.brace_balance.specs.Fillings.{filled}
use Rattle.brace_balance.proofs.search.least_load.Given as goal

abbrev pub invariant-loop-high : goal.invariant-loop-high
invariant-loop-high l = record {
  apart : l.low < l.high;
  within : l.high ≤ length l.xs;
  enough : length (filled l.high l.strips l.xs) < l.strips;
  less : l.strips ≤ length (filled l.low l.strips l.xs);
}

abbrev pub decreases-loop-high : goal.decreases-loop-high
decreases-loop-high l = l.high - l.low
