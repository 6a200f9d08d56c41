use Rattle.std.proofs.Common.{◌≡◌, List, Some, nat_eq, slice_get}
use Rattle.std.specs.List.{IsDistinct}
use Rattle.brace_model.specs.declared.program.Program.{Program}
use Rattle.brace_model.specs.declared.world.Agent.{Agent}
use Rattle.brace_model.specs.Query.{Saying}
use Rattle.brace_model.specs.World.{class_of, ids}
use Rattle.brace_fold.specs.Sums.{AreSummed}
use Rattle.brace_fold.specs.Hears.{Hears}
use Rattle.brace_fold.specs.inner.Joins.{to_first}
use Rattle.brace_fold.proofs.bringing.bring_agent.Given as goal

abbrev pub invariant-loop-k : goal.invariant-loop-k
invariant-loop-k l = (program : Program) (sorted agents : List Agent) (a : Agent)
    (more : List Saying) → IsDistinct nat_eq (ids agents)
    → class_of program a ≡ Some l.class → slice_get sorted l.place ≡ Some a
    → slice_get agents l.row ≡ Some a
    → AreSummed program sorted more l.told
    → Hears program agents (to_first a.id more l.k) l.fn.said l.said
