-- What a part has when it comes to a step, and behind its work there.
use Rattle.std.specs.Prelude.{◌≡◌, ℕ, ◌+◌, List, false, if◌then◌else◌}
use Rattle.std.specs.List.{Contains}
use Rattle.brace_model.specs.declared.fault.Fault.{Fault}
use Rattle.brace_model.specs.declared.world.Agent.{Agent}
use Rattle.brace_model.specs.Query.{Saying}
use Rattle.brace_eval.specs.declared.heard.Heard.{Heard}
use Rattle.brace_eval.specs.Heard.{IsHeard}
use Rattle.brace_fold.specs.declared.order.Moved.{Moved}
use Rattle.brace_fold.specs.Listed.{AreStored}
use Rattle.brace_pieces.specs.declared.setting.Setting.{Setting}
use Rattle.brace_pieces.specs.declared.setting.Stage.{Stage}
use Rattle.brace_pieces.specs.declared.setting.Stage.TheVariants.{Hand, Border, Effects, Census, Move, Show}
use Rattle.brace_pieces.specs.Settings.{cuts_of}
use Rattle.brace_pieces.specs.Continued.{said, becomes, on}
use Rattle.brace_pieces.specs.Together.{left_of, children_of, born_of}
use Rattle.brace_pieces.specs.Heard.{own, near}
use Rattle.brace_pieces.specs.Finds.{updates_found}
use Rattle.brace_herd.specs.declared.stance.Stance.{Stance}
use Rattle.brace_herd.specs.declared.stance.Stance.TheVariants.{Owns, Hears, Holds, Leaves}
use Rattle.brace_herd.specs.Works.{own_under, own_before}
use Rattle.brace_herd.specs.Holding.{HoldsAsked}
use Rattle.brace_herd.specs.Said.{said_over, faults_over}

-- the agents of a part in the world of a tick
abbrev pub own_in : Setting → ℕ → ℕ → List Agent
own_in s p tick = own s tick p (on s tick).agents

-- what the agents of a part leave in a tick
abbrev pub left_in : Setting → ℕ → ℕ → List Agent
left_in s p tick = left_of s tick (on s tick).agents (own_in s p tick)

-- the children that they have, which bear their parents' ids
abbrev pub children_in : Setting → ℕ → ℕ → List Agent
children_in s p tick = children_of s tick (on s tick).agents (own_in s p tick)

-- the children that are born to them, with ids of their own
abbrev pub born_in : Setting → ℕ → ℕ → List Agent
born_in s p tick = born_of s tick (on s tick) (own_in s p tick)

-- the faults of the updates of a part's own agents in a tick
abbrev pub updates_in : Setting → ℕ → ℕ → List Fault
updates_in s p tick = updates_found s tick p (on s tick).agents

-- a part holds what it sees of a tick, and heard what the queries say that it evaluates
pub record HearsAsked (s : Setting) (p tick : ℕ) (agents : List Agent) (heard : Heard)
    : Type 0 where
  pub holds : agents ≡ near s tick p (on s tick).agents
  pub hears : IsHeard s.job.program agents (said_over s tick (own_in s p tick) agents)
      (faults_over s tick (own_in s p tick) agents) heard

-- a part holds what it sees of a tick, and heard enough for what becomes of its own agents
pub record HearsAll (s : Setting) (p tick : ℕ) (agents : List Agent) (heard : Heard)
    : Type 0 where
  pub holds : agents ≡ near s tick p (on s tick).agents
  pub told : List Saying
  pub faults : List Fault
  pub hears : IsHeard s.job.program agents told faults heard
  pub becomes_so : (a : Agent) → Contains (own_in s p tick) a
      → becomes s tick (said s tick (on s tick).agents) a ≡ becomes s tick told a

-- behind its updates a part has what its agents leave, where children bear their parents' ids
pub record HasLeft (s : Setting) (p tick : ℕ) (left : Moved) (born : List Agent) (next : ℕ)
    : Type 0 where
  pub lives : AreStored s.job.program (left_in s p tick) left
  pub bears : born ≡ children_in s p tick
  pub same_next : next ≡ (on s tick).next

-- behind the census these have ids of their own, and the next free id is that of the next world
pub record HasBorn (s : Setting) (p tick : ℕ) (left : Moved) (born : List Agent) (next : ℕ)
    : Type 0 where
  pub lives : AreStored s.job.program (left_in s p tick) left
  pub born_so : born ≡ born_in s p tick
  pub next_is : next ≡ (on s (tick + 1)).next

-- what a part has is what a step of a stage and tick needs
abbrev pub IsReadyFor : Setting → ℕ → Stage → ℕ → Stance → Type 0
IsReadyFor s p Hand tick (Owns own) = AreStored s.job.program (own_before s p Hand tick) own
IsReadyFor s p Border tick (Owns own) = AreStored s.job.program (own_before s p Border tick) own
IsReadyFor s p Show tick (Owns own) = AreStored s.job.program (own_before s p Show tick) own
IsReadyFor s p Effects tick (Hears agents heard) =
    (s.invert ≡ false) × HearsAsked s p tick agents.items heard
IsReadyFor s p Effects tick (Holds held) = (s.invert ≡ false) × HoldsAsked s p tick held
IsReadyFor s p Census tick (Leaves left born next) = HasLeft s p tick left born.items next
IsReadyFor s p Move tick (Leaves left born next) = HasBorn s p tick left born.items next
IsReadyFor s p at tick stance = ⊥

-- what a part has behind its work in a step of a stage and tick
abbrev pub IsReadyBehind : Setting → ℕ → Stage → ℕ → Stance → Type 0
IsReadyBehind s p Hand tick stance = IsReadyFor s p Border tick stance
IsReadyBehind s p Border tick stance =
    IsReadyFor s p (if s.invert then Census else Effects) tick stance
IsReadyBehind s p Effects tick stance = IsReadyFor s p Census tick stance
IsReadyBehind s p Census tick stance = IsReadyFor s p Move tick stance
IsReadyBehind s p Move tick (Owns own) =
    AreStored s.job.program (own_under s p (cuts_of s tick) (tick + 1)) own
IsReadyBehind s p Show tick stance = IsReadyFor s p Show tick stance
IsReadyBehind s p at tick stance = ⊥
