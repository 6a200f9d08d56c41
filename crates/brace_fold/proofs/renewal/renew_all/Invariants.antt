use Rattle.std.proofs.Common.{◌≡◌, length}
use Rattle.brace_fold.specs.declared.renewal.Renewed.{Renewed}
use Rattle.brace_fold.specs.inner.Renewals.{LeavesRows}
use Rattle.brace_fold.proofs.renewal.renew_all.Given as goal

abbrev pub invariant-loop-left : goal.invariant-loop-left
invariant-loop-left l = record {
  wide : length l.renewed.left.states.items ≡ length l.fn.renewed.left.states.items;
  leaves : (end : Renewed) → LeavesRows l.ground l.said l.columns l.left l.renewed end
      → LeavesRows l.ground l.said l.columns l.rows l.fn.renewed end;
}

abbrev pub decreases-loop-left : goal.decreases-loop-left
decreases-loop-left l = length l.left
