-- A part of the plane as contracts see it: what it owns where it stands, what it keeps to be shown,
-- and why it goes no further.
use Rattle.std.specs.Prelude.{◌≡◌, ◌⊎◌, ℕ, ◌+◌, ◌-◌, ◌<◌, ◌%◌, ◌==◌, List, [], map, filter, ◌||◌, if◌then◌else◌, Option, Some, None, slice_get}
use Rattle.std.specs.List.{range_with_len}
use Rattle.brace_model.specs.declared.fault.Fault.{Fault}
use Rattle.brace_model.specs.FaultOrder.{least}
use Rattle.brace_model.specs.declared.world.Agent.{Agent}
use Rattle.brace_core.specs.declared.name.Turn.{Turn}
use Rattle.brace_core.specs.declared.name.Turn.TheVariants.{Work}
use Rattle.brace_pieces.specs.declared.setting.Setting.{Setting}
use Rattle.brace_pieces.specs.declared.setting.Stage.{Stage}
use Rattle.brace_pieces.specs.declared.setting.Stage.TheVariants.{Border, Effects, Census, Move, Show}
use Rattle.brace_pieces.specs.declared.setting.Step.{Step}
use Rattle.brace_pieces.specs.declared.piece.Cause.{Cause}
use Rattle.brace_pieces.specs.declared.piece.Cause.TheVariants as cause
use Rattle.brace_pieces.specs.declared.piece.Shown.{Shown}
use Rattle.brace_pieces.specs.Settings.{is_end, shown_from, shown_ticks}
use Rattle.brace_pieces.specs.Steps.{steps}
use Rattle.brace_pieces.specs.Continued.{on}
use Rattle.brace_pieces.specs.Right.{IsRightCause}
use Rattle.brace_pieces.specs.Courses.{OnCourse, step_of, turn_of}
use Rattle.brace_pieces.specs.declared.counts.Counts.{Counts}
use Rattle.brace_herd.specs.Works.{own_before, found_in_work}

-- a part: where it stands in the schedule of its setting, the agents that it owns there, what it
-- keeps to be shown, why it goes no further, and how much it gave
pub record OnPart : Type 0 where
  pub course : OnCourse
  pub owns : List Agent
  pub shown : List Shown
  pub cause : Option Cause
  pub counts : Counts

-- the tick whose query is evaluated in the work of a step, if one is
abbrev pub tick_asked : Stage → ℕ → Option ℕ
tick_asked Border tick = Some tick
tick_asked _ tick = None

-- the same for a turn in a step that may be there, of one who may have a cause to go no further
abbrev pub asked_in : Option Cause → Turn → Option Step → Option ℕ
asked_in None Work (Some at) = tick_asked at.stage at.tick
asked_in _ _ _ = None

-- the tick whose query a part evaluates in its next turn, if it evaluates one there
abbrev pub asks_next : OnPart → Option ℕ
asks_next p = asked_in p.cause (turn_of p.course) (step_of p.course)

-- the agents that a part owns where a step is next, or where none is left
abbrev pub own_at : Setting → ℕ → Option Step → List Agent
own_at s p (Some at) = own_before s p at.stage at.tick
own_at s p None = own_before s p Show s.job.last

-- a part that comes to a step is between two ticks: it evaluated no query of which it did not make
-- the move
abbrev pub is_settled : Stage → Type 0
is_settled Effects = ⊥
is_settled Census = ⊥
is_settled Move = ⊥
is_settled _ = Unit {0}

abbrev pub IsSettled : Option Step → Type 0
IsSettled None = Unit {0}
IsSettled (Some at) = is_settled at.stage

-- the ticks since the end before a tick, up to it, that are shown
abbrev pub noted : Setting → ℕ → List ℕ
noted s tick =
    let from = shown_from s tick in
    filter (λ t. is_end s t || (t % s.job.every == 0)) (range_with_len from (tick + 1 - from))

-- a world as a part keeps it to be shown
abbrev pub kept_at : Setting → ℕ → ℕ → Shown
kept_at s p tick =
    record { tick = tick; agents = own_before s p Show tick; next = (on s tick).next }

-- what a part keeps to be shown where it comes to a step: nothing where all was put
abbrev pub keeps_before : Setting → ℕ → Stage → ℕ → List Shown
keeps_before s p Show tick = []
keeps_before s p _ tick = if is_end s tick then [] else map (kept_at s p) (noted s tick)

abbrev pub keeps_at : Setting → ℕ → Option Step → List Shown
keeps_at s p (Some at) = keeps_before s p at.stage at.tick
keeps_at s p None = []

-- what a part keeps to be shown before it prepares a step: where all is shown all that it shows
abbrev pub brings_to : Setting → ℕ → Stage → ℕ → List Shown
brings_to s p Show tick = map (kept_at s p) (shown_ticks s tick)
brings_to s p at tick = keeps_before s p at tick

abbrev pub brings_at : Setting → ℕ → Option Step → List Shown
brings_at s p (Some at) = brings_to s p at.stage at.tick
brings_at s p None = []

-- behind a work a part keeps to be shown what it kept before or, where it had no cause before, all
-- that it brings to the next step
abbrev pub StillShows : OnPart → OnPart → Type 0
StillShows old new = (new.shown ≡ old.shown)
    ⊎ ((old.cause ≡ None)
    × (new.shown ≡ brings_at new.course.setting new.course.actor (step_of new.course)))

-- a part that found faults in the work of the step of a number has the least of them as its cause,
-- or one that is right in that step
abbrev pub IsCauseBehind : Setting → ℕ → List Fault → Option Cause → Type 0
IsCauseBehind s number found c =
    (f : Fault) → least found ≡ Some f
    → (c ≡ Some (cause.Fault f)) ⊎ ((d : Cause) × ((c ≡ Some d) × IsRightCause s number d))

-- a part has a cause for what it found in each of its works before the step of a number
abbrev pub IsCauseOfAll : Setting → ℕ → ℕ → Option Cause → Type 0
IsCauseOfAll s p number c =
    (k : ℕ) (at : Step) → k < number → slice_get (steps s) k ≡ Some at
    → IsCauseBehind s k (found_in_work s p at.stage at.tick) c
