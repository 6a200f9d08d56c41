-- An actor of a run among its turns: what its next turn is, and why it goes no further.
use Rattle.std.specs.Prelude.{◌≡◌, ◌-◌, ◌*◌, ◌<◌, ◌≤◌, length, slice_index_or, Option, Some, None}
use Rattle.brace_core.specs.declared.name.Name.{Name}
use Rattle.brace_core.specs.Schedule.{name}
use Rattle.brace_pieces.specs.declared.setting.Step.{Step}
use Rattle.brace_pieces.specs.declared.piece.Cause.{Cause}
use Rattle.brace_pieces.specs.declared.piece.Piece.{Piece}
use Rattle.brace_pieces.specs.declared.piece.Piece.TheVariants as piece
use Rattle.brace_pieces.specs.declared.turns.Turns.{Turns}
use Rattle.brace_pieces.specs.Courses.{OnCourse, IsCourse, step_of, others_of}
use Rattle.brace_pieces.specs.Exchanged.{IsHalted}

-- it puts to the next whom it meets
pub record PutsNext (c : OnCourse) (n : Name) : Type 0 where
  pub at : Step
  pub stands : step_of c ≡ Some at
  pub low : c.made < length (others_of c)
  pub same : n ≡ name c.number c.actor (slice_index_or (others_of c) c.made 0)

-- it takes from the next whom it meets
pub record TakesNext (c : OnCourse) (n : Name) : Type 0 where
  pub at : Step
  pub stands : step_of c ≡ Some at
  pub high : length (others_of c) ≤ c.made
  pub low : c.made - length (others_of c) < length (others_of c)
  pub same : n
      ≡ name c.number (slice_index_or (others_of c) (c.made - length (others_of c)) 0) c.actor

-- it put to all whom it meets in a step, and took from them
pub record WorksNext (c : OnCourse) (at : Step) : Type 0 where
  pub stands : step_of c ≡ Some at
  pub high : 2 * length (others_of c) ≤ c.made

-- why it goes no further behind a piece that it took: for the first cause
abbrev pub cause_behind : Option Cause → Piece → Option Cause
cause_behind (Some c) piece = Some c
cause_behind None (piece.Halt c) = Some c
cause_behind None piece = None

-- what always holds of it between its turns: its cause is right to be told
pub record IsTurns (t : Turns) : Type 0 where
  pub on_course : IsCourse t.course
  pub right : IsHalted t.course.setting t.course.number t.cause
