use Rattle.std.proofs.Common.{length}
use Rattle.brace_model.specs.declared.world.Agent.{Agent}
use Rattle.brace_fold.specs.declared.table.Table.{Table}
use Rattle.brace_fold.specs.inner.Asks.{Asks}
use Rattle.brace_fold.proofs.asking.ask_all.Given as goal

abbrev pub invariant-loop-left : goal.invariant-loop-left
invariant-loop-left l = (d : Agent) (end : Table) → Asks l.scene d l.left l.heard end
    → Asks l.scene d l.asking l.fn.heard end

abbrev pub decreases-loop-left : goal.decreases-loop-left
decreases-loop-left l = length l.left
