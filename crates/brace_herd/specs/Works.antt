-- What a part owns before a step, and which faults it finds in its work there.
use Rattle.std.specs.Prelude.{◌≡◌, ◌⊎◌, ℕ, ◌+◌, ◌-◌, List, [], ◌++◌, if◌then◌else◌, Option, Some, None}
use Rattle.brace_model.specs.declared.fault.Fault.{Fault}
use Rattle.brace_model.specs.FaultOrder.{least}
use Rattle.brace_model.specs.declared.world.Agent.{Agent}
use Rattle.brace_cuts.specs.declared.space.Cuts.{Cuts}
use Rattle.brace_pieces.specs.declared.setting.Setting.{Setting}
use Rattle.brace_pieces.specs.declared.setting.Stage.{Stage}
use Rattle.brace_pieces.specs.declared.setting.Stage.TheVariants.{Hand, Border, Effects, Census, Show}
use Rattle.brace_pieces.specs.declared.piece.Cause.{Cause}
use Rattle.brace_pieces.specs.declared.piece.Cause.TheVariants as cause
use Rattle.brace_pieces.specs.Settings.{cuts_of, cuts_shown}
use Rattle.brace_pieces.specs.Continued.{on, birth_faults}
use Rattle.brace_pieces.specs.Owned.{owned}
use Rattle.brace_pieces.specs.Finds.{queries_found, updates_found}

-- the agents of a part in the world of a tick, under some cuts
abbrev pub own_under : Setting → ℕ → Cuts → ℕ → List Agent
own_under s p cuts tick = owned s.job.program cuts p (on s tick).agents

-- the agents that a part owns before it makes a step: where other cuts begin to hold those under
-- the cuts before
abbrev pub own_before : Setting → ℕ → Stage → ℕ → List Agent
own_before s p Hand tick = own_under s p (cuts_of s (tick - 1)) tick
own_before s p Show tick = own_under s p (cuts_shown s tick) tick
own_before s p _ tick = own_under s p (cuts_of s tick) tick

-- the faults that a part finds in the work of a step
abbrev pub found_in_work : Setting → ℕ → Stage → ℕ → List Fault
found_in_work s p Border tick =
    queries_found s tick p (on s tick).agents
    ++ (if s.invert then updates_found s tick p (on s tick).agents else [])
found_in_work s p Effects tick = updates_found s tick p (on s tick).agents
found_in_work s p Census tick = birth_faults s tick (on s tick)
found_in_work s p _ tick = []

-- the cause that a work gives to a part that went on: the least of the faults that it finds
abbrev pub cause_of : Option Fault → Option Cause
cause_of None = None
cause_of (Some f) = Some (cause.Fault f)

-- a cause is that of these faults, or memory was refused
abbrev pub IsCauseOf : List Fault → Cause → Type 0
IsCauseOf found c = (Some c ≡ cause_of (least found)) ⊎ (c ≡ cause.NoMemory)
