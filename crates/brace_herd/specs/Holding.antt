-- What a part holds in rows, what is said to these, and what is left of its own. Only the crate's
-- own functions cite this.
use Rattle.std.specs.Prelude.{◌≡◌, ℕ, List, [], ◌++◌}
use Rattle.std.specs.List.{Contains}
use Rattle.std.specs.List.Sorted.{IsPermutation}
use Rattle.brace_model.specs.declared.program.Program.{Program}
use Rattle.brace_model.specs.declared.world.Agent.{Agent}
use Rattle.brace_model.specs.Query.{Saying}
use Rattle.brace_fold.specs.declared.order.Moved.{Moved}
use Rattle.brace_fold.specs.declared.renewal.Renewed.{Renewed}
use Rattle.brace_fold.specs.Listed.{AreListed, AreStored}
use Rattle.brace_fold.specs.Rows.{AreMoved, by_id}
use Rattle.brace_fold.specs.Sums.{AreSummed}
use Rattle.brace_pieces.specs.declared.setting.Setting.{Setting}
use Rattle.brace_pieces.specs.Continued.{said, becomes, on}
use Rattle.brace_pieces.specs.Heard.{own, near}
use Rattle.brace_pieces.specs.Finds.{updates_found}
use Rattle.brace_pieces.specs.Together.{left_of, children_of}
use Rattle.brace_herd.specs.declared.holding.Held.{Held}
use Rattle.brace_herd.specs.Placed.{ArePlaces}
use Rattle.brace_herd.specs.Said.{faults_over, said_over}

-- the agents in a world of a part's own and of all that it holds in a tick
abbrev pub mine : Setting → ℕ → ℕ → List Agent
mine s p tick = own s tick p (on s tick).agents

abbrev pub all_near : Setting → ℕ → ℕ → List Agent
all_near s p tick = near s tick p (on s tick).agents

-- a part holds what it sees of a tick: its own agents, and the others
pub record IsHeld (s : Setting) (p tick : ℕ) (own guests : List Agent) : Type 0 where
  pub own_is : own ≡ mine s p tick
  pub moved : IsPermutation (own ++ guests) (all_near s p tick)

-- the same in columns, in some order
abbrev pub AreHeld : Setting → ℕ → ℕ → Moved → Type 0
AreHeld s p tick rows = AreStored s.job.program (all_near s p tick) rows

-- these agents of a part's own and these guests stand in columns, each at its place, the guests by
-- rising id
pub record AreStanding (program : Program) (own guests : List Agent) (held : Held) : Type 0 where
  pub all : List Agent
  pub theirs : List Agent
  pub moved : IsPermutation (own ++ guests) all
  pub listed : AreListed program all held.rows
  pub same : IsPermutation own theirs
  pub own_stand : ArePlaces all theirs held.own.items
  pub guests_stand : ArePlaces all (by_id guests) held.places.items

-- and these were told what the queries say that the part evaluates, none of which faults
pub record IsSummed (s : Setting) (tick : ℕ) (own guests : List Agent) (held : Held) : Type 0 where
  pub stand : AreStanding s.job.program own guests held
  pub sums : AreSummed s.job.program stand.all (said_over s tick own (by_id (own ++ guests)))
      held.said
  pub quiet : faults_over s tick own (by_id (own ++ guests)) ≡ []

-- a part holds its own agents and guests in columns
pub record HoldsRows (s : Setting) (p tick : ℕ) (held : Held) : Type 0 where
  pub guests : List Agent
  pub holds : IsHeld s p tick (mine s p tick) guests
  pub stand : AreStanding s.job.program (mine s p tick) guests held

-- and these were told what the queries say that the part evaluates
pub record HoldsAsked (s : Setting) (p tick : ℕ) (held : Held) : Type 0 where
  pub holds : HoldsRows s p tick held
  pub sums : AreSummed s.job.program holds.stand.all
      (said_over s tick (mine s p tick) (all_near s p tick)) held.said

-- the same, told enough for what becomes of the part's own agents
pub record HoldsAll (s : Setting) (p tick : ℕ) (held : Held) : Type 0 where
  pub holds : HoldsRows s p tick held
  pub told : List Saying
  pub sums : AreSummed s.job.program holds.stand.all told held.said
  pub becomes_so : (a : Agent) → Contains (mine s p tick) a
      → becomes s tick (said s tick (on s tick).agents) a ≡ becomes s tick told a

-- the updates of a part's own agents fault nowhere, and this is left of them, in some order
pub record LeavesRows (s : Setting) (p tick : ℕ) (renewed : Renewed) : Type 0 where
  pub quiet : updates_found s tick p (on s tick).agents ≡ []
  pub those : List Agent
  pub same : IsPermutation (left_of s tick (on s tick).agents (mine s p tick)) those
  pub lives : AreMoved those renewed.left
  pub bears : IsPermutation (children_of s tick (on s tick).agents (mine s p tick))
      renewed.born.items
