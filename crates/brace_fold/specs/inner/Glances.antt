-- Lower halves of where agents of one class stand, in columns. Only the crate's own functions cite
-- this.
use Rattle.std.specs.Prelude.{◌≡◌, ℕ, ◌≤◌, ◌<◌, nat_lt, ℤ, pos, ◌+ℤ◌, ◌-ℤ◌, Bool, ◌&&◌, if◌then◌else◌, FitsSigned, List, [], ◌∷◌, map, length, Some, slice_get, slice_index_or}
use Rattle.std.specs.Int.{int_wrap, w32}
use Rattle.brace_model.specs.declared.program.Class.{Class}
use Rattle.brace_model.specs.Value.{Scope}
use Rattle.brace_code.specs.declared.lane.Lane.{Lane}
use Rattle.brace_plan.specs.Acts.{near_by}
use Rattle.brace_fold.specs.declared.cells.Runs.{Runs}
use Rattle.brace_fold.specs.declared.cells.Spot.{Spot}
use Rattle.brace_fold.specs.declared.crowd.Crowd.{Crowd}
use Rattle.brace_fold.specs.declared.finding.Sought.{Sought}
use Rattle.brace_fold.specs.declared.glancing.Glance.{Glance}
use Rattle.brace_fold.specs.declared.glancing.Square.{Square}
use Rattle.brace_fold.specs.declared.halves.Halves.{Halves}
use Rattle.brace_fold.specs.declared.scene.Scene.{Scene}
use Rattle.brace_fold.specs.declared.seeing.Eye.{Eye}
use Rattle.brace_fold.specs.inner.Crowds.{IsIn, rows}
use Rattle.brace_fold.specs.inner.Sights.{Appended, is_found}

-- half of all lower halves above that of the least word within a range of one
abbrev pub base : ℤ → ℕ → ℤ
base p range = int_wrap w32 ((p -ℤ pos range) +ℤ pos 2147483648)

-- what an eye looks for, in lower halves
pub record IsSquare (eye : Eye) (square : Square) : Type 0 where
  pub across : square.across ≡ base eye.x eye.range
  pub along : square.along ≡ base eye.y eye.range
  pub reach : square.reach ≡ (pos eye.range +ℤ pos eye.range) -ℤ pos 2147483648
  pub place : square.place ≡ eye.place
  pub range : FitsSigned w32 (pos eye.range)

-- the eye of the agent of a row, where a glance shows it
pub record IsLooked (glance : Glance) (row : ℕ) (eye : Eye) : Type 0 where
  pub x : slice_get glance.xs.now row ≡ Some (int_wrap w32 eye.x)
  pub y : slice_get glance.ys.now row ≡ Some (int_wrap w32 eye.y)
  pub range : glance.range ≡ pos eye.range
  pub place : row ≡ eye.place

-- a spot is one of the class that an eye looks for, and its lower halves, in its row, tell how far
-- it is from the eye
pub record IsClear (eye : Eye) (xs ys : List ℤ) (row : ℕ) (s : Spot) : Type 0 where
  pub of : s.class ≡ eye.class
  pub at : s.place ≡ row
  pub x : slice_index_or xs row (pos 0) ≡ int_wrap w32 s.x
  pub y : slice_index_or ys row (pos 0) ≡ int_wrap w32 s.y
  pub across : FitsSigned w32 (s.x -ℤ eye.x)
  pub along : FitsSigned w32 (s.y -ℤ eye.y)

-- the same of the spots of rows from one up to another
pub record AreClear (eye : Eye) (xs ys : List ℤ) (start end : ℕ) (spots : List Spot) : Type 0 where
  pub within : end ≤ length spots
  pub each : (k : ℕ) (d : Spot) → start ≤ k → k < end
      → IsClear eye xs ys k (slice_index_or spots k d)

-- the same of those of three runs
pub record AreClearAround (eye : Eye) (glance : Glance) (runs : Runs) (spots : List Spot)
    : Type 0 where
  pub west : AreClear eye glance.xs.now glance.ys.now runs.west.start runs.west.end spots
  pub middle : AreClear eye glance.xs.now glance.ys.now runs.middle.start runs.middle.end spots
  pub east : AreClear eye glance.xs.now glance.ys.now runs.east.start runs.east.end spots

-- an eye finds the spot of a row that comes before an end
abbrev pub sees_at : Eye → ℕ → List Spot → Spot → ℕ → Bool
sees_at eye end spots d row = nat_lt row end && is_found eye [] (slice_index_or spots row d)

-- a row that is kept, or none
abbrev pub kept : Bool → ℕ → List ℕ
kept keeps row = if keeps then row ∷ [] else []

-- both columns have as many rows, which 32 bits number
pub record HasRows (glance : Glance) : Type 0 where
  pub even : length glance.ys.now ≡ length glance.xs.now
  pub few : length glance.xs.now ≤ 4294967295

-- all agents are of a class, and a glance shows the lower halves of where they stand and how far
-- they see
pub record IsGlance (scene : Scene) (class : ℕ) (glance : Glance) : Type 0 where
  pub has : HasRows glance
  pub halves : Halves
  pub theirs : scene.cells.now.halves ≡ Some halves
  pub xs : glance.xs.now ≡ halves.xs.items
  pub ys : glance.ys.now ≡ halves.ys.items
  pub own : Class
  pub one : scene.program.now.classes ≡ own ∷ []
  pub first : class ≡ 0
  pub range : ℕ
  pub sees : glance.range ≡ pos range
  pub far : pos range ≡ own.visible

-- where there is a glance of what a loop looks for, there are no bounds
pub record IsSought (scene : Scene) (sought : Sought) : Type 0 where
  pub uncut : (glance : Glance) → sought.glance ≡ Some glance → sought.bounds.now ≡ []
  pub glance : (glance : Glance) → sought.glance ≡ Some glance
      → IsGlance scene sought.class glance

-- the rows of the agents that a loop takes in a lane stand behind so many rows
pub record Finds (scene : Scene) (crowd : Crowd) (lane : Lane) (sought : Sought) (from count : ℕ)
    (old new : List ℕ) : Type 0 where
  pub found : List ℕ
  pub appended : Appended from count old new found
  pub near : (scope : Scope) → IsIn scene crowd lane scope → map (slice_get (rows scene)) found
      ≡ map Some (near_by scene.program.now (rows scene) scope sought.class sought.bounds.now)
