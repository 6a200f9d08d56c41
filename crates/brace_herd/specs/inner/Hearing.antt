-- What the queries of a part hear. Only the crate's own functions cite this.
use Rattle.std.specs.Prelude.{◌≡◌, ◌≤◌, ◌<◌, ◌^◌, ◌++◌, ℕ, List, length, nat_eq, IsTrue}
use Rattle.std.specs.List.{All, IsDistinct, list_all}
use Rattle.std.specs.List.Sorted.{IsPermutation}
use Rattle.brace_model.specs.declared.world.Agent.{Agent}
use Rattle.brace_model.specs.World.{RisesById, ids}
use Rattle.brace_model.specs.Lawful.{is_lawful_agent}
use Rattle.brace_eval.specs.declared.heard.Heard.{Heard}
use Rattle.brace_eval.specs.Heard.{IsHeard}
use Rattle.brace_fold.specs.declared.arranged.Arranged.{Arranged}
use Rattle.brace_fold.specs.declared.order.Moved.{Moved}
use Rattle.brace_fold.specs.Arranged.{AreArranged}
use Rattle.brace_fold.specs.Rows.{AreMoved}
use Rattle.brace_pieces.specs.declared.setting.Setting.{Setting}
use Rattle.brace_herd.specs.declared.query.Queries.{Queries}
use Rattle.brace_herd.specs.Placed.{ArePlaces}
use Rattle.brace_herd.specs.Workers.{AreQueriesOf}
use Rattle.brace_herd.specs.Said.{said_over, faults_over}

-- the queries of a run can be asked of the agents at some places of those that are held
pub record CanHear (s : Setting) (asked : Queries) (tick : ℕ) (places : List ℕ)
    (held : List Agent) : Type 0 where
  pub queries : AreQueriesOf s asked
  pub lawful : IsTrue (list_all (is_lawful_agent s.job.program) held)
  pub few : length held ≤ 2 ^ 20
  pub rises : RisesById held
  pub placed : All (λ (place : ℕ). place < length held) places
  pub ticks : tick ≤ 2 ^ 32

-- what is heard is what the queries say that a part asks whose own agents stand at the places, and
-- their faults
abbrev pub HearsOver : Setting → ℕ → List ℕ → List Agent → Heard → Type 0
HearsOver s tick places held heard = (own : List Agent) → ArePlaces held own places
    → IsHeard s.job.program held (said_over s tick own held) (faults_over s tick own held) heard

-- the queries of a run can be asked of a part's own agents, which stand in the first rows, so many,
-- in some order, and of guests, who stand behind them
pub record CanSum (s : Setting) (asked : Queries) (tick count : ℕ) (guests : List Agent)
    (rows : Moved) : Type 0 where
  pub own : List Agent
  pub those : List Agent
  pub same : IsPermutation own those
  pub many : count ≡ length those
  pub moved : AreMoved (those ++ guests) rows
  pub queries : AreQueriesOf s asked
  pub lawful : IsTrue (list_all (is_lawful_agent s.job.program) (own ++ guests))
  pub apart : IsDistinct nat_eq (ids (own ++ guests))
  pub ticks : tick ≤ 2 ^ 32

-- they can be asked of agents in the order of cells
pub record CanSay (s : Setting) (asked : Queries) (agents : List Agent) (arranged : Arranged)
    : Type 0 where
  pub queries : AreQueriesOf s asked
  pub arranged_so : AreArranged s.job.program agents arranged
