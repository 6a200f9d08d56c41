use Rattle.std.proofs.Common.{List, flat_map, nat_eq, take}
use Rattle.std.specs.List.{IsDistinct}
use Rattle.brace_model.specs.declared.world.Agent.{Agent}
use Rattle.brace_model.specs.Query.{Saying}
use Rattle.brace_model.specs.World.{ids}
use Rattle.brace_fold.specs.Rows.{AreColumns}
use Rattle.brace_fold.specs.Sums.{AreSummed}
use Rattle.brace_fold.specs.Hears.{Hears}
use Rattle.brace_fold.specs.inner.Joins.{said_of}
use Rattle.brace_fold.specs.Asked.{by_row}
use Rattle.brace_fold.proofs.bringing.bring_all.Given as goal

abbrev pub invariant-loop-k : goal.invariant-loop-k
invariant-loop-k l = (agents : List Agent) (more : List Saying) → AreColumns agents l.columns
    → IsDistinct nat_eq (ids agents)
    → AreSummed l.program (by_row agents l.order) more l.told
    → Hears l.program agents
    (flat_map (said_of l.program more) (by_row agents (take l.k l.order))) l.fn.said l.said
