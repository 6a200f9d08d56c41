use Rattle.std.proofs.Common.{◌++◌, List, flat_map, take}
use Rattle.brace_model.specs.declared.fault.Fault.{Fault}
use Rattle.brace_model.specs.Query.{Saying}
use Rattle.brace_eval.specs.Heard.{IsHeard}
use Rattle.brace_fold.specs.Sums.{AreSummed}
use Rattle.brace_fold.specs.inner.Joins.{said_of}
use Rattle.brace_fold.proofs.joining.join_all.Given as goal

abbrev pub invariant-loop-place : goal.invariant-loop-place
invariant-loop-place l = (more said : List Saying) (faults : List Fault)
    → AreSummed l.program l.agents more l.table
    → IsHeard l.program l.agents said faults l.fn.heard
    → IsHeard l.program l.agents (said ++ flat_map (said_of l.program more) (take l.place l.agents)) faults l.heard
