use Rattle.std.proofs.Common.{take}
use Rattle.brace_fold.specs.inner.Crowds.{AreGathered}
use Rattle.brace_fold.proofs.crowd.gather_all.Given as goal

abbrev pub invariant-loop-column : goal.invariant-loop-column
invariant-loop-column l = AreGathered l.lanes (take l.column-index l.columns) l.outs.items
