use Rattle.std.proofs.Common.{◌≡◌, List, map, take}
use Rattle.brace_model.specs.declared.world.Agent.{Agent}
use Rattle.brace_model.specs.Query.{Saying}
use Rattle.brace_fold.specs.Rows.{AreMoved, by_id}
use Rattle.brace_fold.specs.Sums.{AreSummed}
use Rattle.brace_pieces.specs.Right.{share_of}
use Rattle.brace_herd.specs.Placed.{ArePlaces}
use Rattle.brace_herd.specs.inner.Tables.{shares_in}
use Rattle.brace_herd.proofs.holding.Held.told_sums.Given as goal

abbrev pub invariant-loop-k : goal.invariant-loop-k
invariant-loop-k l = (all guests : List Agent) (said : List Saying) → AreMoved all l.self.rows
    → ArePlaces all (by_id guests) l.self.places.items
    → AreSummed l.program all said l.self.said
    → map share_of l.entries ≡ shares_in l.program l.cuts l.to (take l.k (by_id guests)) said
