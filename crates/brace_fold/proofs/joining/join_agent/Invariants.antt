use Rattle.std.proofs.Common.{◌≡◌, ◌++◌, List, Some, slice_get}
use Rattle.brace_model.specs.declared.fault.Fault.{Fault}
use Rattle.brace_model.specs.declared.world.Agent.{Agent}
use Rattle.brace_model.specs.Query.{Saying}
use Rattle.brace_eval.specs.Heard.{IsHeard}
use Rattle.brace_fold.specs.Sums.{AreSummed}
use Rattle.brace_fold.specs.inner.Joins.{to_first}
use Rattle.brace_fold.proofs.joining.join_agent.Given as goal

abbrev pub invariant-loop-k : goal.invariant-loop-k
invariant-loop-k l = (rows : List Agent) (x : Agent) (more said : List Saying) (faults : List Fault)
    → slice_get l.agents l.place ≡ Some x → slice_get rows l.row ≡ Some x → AreSummed l.program rows more l.table
    → IsHeard l.program l.agents said faults l.fn.heard → IsHeard l.program l.agents (said ++ to_first x.id more l.k) faults l.heard
