-- An actor's course through the steps of a run: whom it meets in each, and which turn is next.
use Rattle.std.specs.Prelude.{ℕ, ◌+◌, ◌*◌, ◌<◌, ◌≤◌, List, [], ◌++◌, sum_by, length, take, Option, Some, None, slice_get, slice_index_or}
use Rattle.brace_core.specs.declared.name.Turn.{Turn}
use Rattle.brace_core.specs.declared.name.Turn.TheVariants.{Work, Done}
use Rattle.brace_core.specs.Schedule.{puts, takes}
use Rattle.brace_core.specs.Exchanges.{due}
use Rattle.brace_pieces.specs.declared.setting.Setting.{Setting}
use Rattle.brace_pieces.specs.declared.setting.Step.{Step}
use Rattle.brace_pieces.specs.Settings.{parts}
use Rattle.brace_pieces.specs.Steps.{schedule, steps, met}

-- where an actor of a run stands: in which step, by its place in the run's steps, and behind how
-- many of its turns in that step
pub record OnCourse : Type 0 where
  pub setting : Setting
  pub actor : ℕ
  pub number : ℕ
  pub made : ℕ

-- before its first turn
abbrev pub at_start : Setting → ℕ → OnCourse
at_start s p = record { setting = s; actor = p; number = 0; made = 0 }

-- the step that it stands in; none behind the last
abbrev pub step_of : OnCourse → Option Step
step_of c = slice_get (steps c.setting) c.number

-- whom it meets in a step that may be there
abbrev pub met_in : Setting → Option Step → ℕ → List ℕ
met_in s None p = []
met_in s (Some at) p = met s at p

-- whom it meets in the step that it stands in
abbrev pub others_of : OnCourse → List ℕ
others_of c = met_in c.setting (step_of c) c.actor

-- its turns before its work in a step with these others: it puts to each, then takes from each
abbrev pub exchanges : ℕ → ℕ → List ℕ → List Turn
exchanges number p others = puts number p others ++ takes number p others

-- its turn behind so many in a step that may be there: Work behind all exchanges, Done where there
-- is no step
abbrev pub turn_in : ℕ → ℕ → List ℕ → ℕ → Option Step → Turn
turn_in number p others made None = Done
turn_in number p others made (Some at) = slice_index_or (exchanges number p others) made Work

-- its next turn
abbrev pub turn_of : OnCourse → Turn
turn_of c = turn_in c.number c.actor (others_of c) c.made (step_of c)

-- how many turns it makes in a step: it works once
abbrev pub turns_in : Setting → ℕ → Step → ℕ
turns_in s p at = 2 * length (met s at p) + 1

-- how many turns it made: those of all steps before, and those of this one
abbrev pub past_of : OnCourse → ℕ
past_of c = sum_by (turns_in c.setting c.actor) (take c.number (steps c.setting)) + c.made

-- the turn that its schedule has for it next
abbrev pub due_on : OnCourse → Turn
due_on c = due schedule c.setting c.actor (past_of c)

-- where it stands behind a turn: behind its work before all turns of the next step
abbrev pub gone_behind : OnCourse → Turn → OnCourse
gone_behind c Work = record c { number = c.number + 1; made = 0 }
gone_behind c _ = record c { made = c.made + 1 }

-- where it stands behind its next turn
abbrev pub gone_on : OnCourse → OnCourse
gone_on c = gone_behind c (turn_of c)

-- it is a part of the run or the publisher, and stands before its work of a step
pub record IsCourse (c : OnCourse) : Type 0 where
  pub is_actor : c.actor < parts c.setting + 1
  pub before_work : c.made ≤ 2 * length (others_of c)
