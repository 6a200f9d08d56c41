-- Crowds: the scopes that lanes stand for. Only the crate's own functions cite this.
use Rattle.std.specs.Prelude.{◌≡◌, ℕ, ◌<◌, ◌≤◌, ℤ, pos, Bool, false, true, Option, None, Some, List, map, flat_map, replicate, [], ◌∷◌, ◌++◌, if◌then◌else◌, ⊤, IfSome, drop, length, slice_get, slice_index_or, option_copied}
use Rattle.std.specs.List.{All}
use Rattle.std.specs.List.Sorted.{IsPermutation}
use Rattle.brace_draw.specs.Draw.{draw_value}
use Rattle.brace_model.specs.declared.world.Agent.{Agent}
use Rattle.brace_model.specs.World.{RisesById, number, value_at}
use Rattle.brace_model.specs.declared.program.Ty.{Ty}
use Rattle.brace_model.specs.Value.{Scope, typed}
use Rattle.brace_model.specs.Query.{bound}
use Rattle.brace_code.specs.declared.lane.Lane.{Lane}
use Rattle.brace_code.specs.declared.lanes.Rows.{Rows}
use Rattle.brace_code.specs.declared.lanes.Rows.TheVariants.{Same, Each}
use Rattle.brace_code.specs.RowLists.{lanes_of}
use Rattle.brace_code.specs.Lanes.{draws_at}
use Rattle.brace_code.specs.Columns.{side, taking}
use Rattle.brace_fold.specs.declared.crowd.Crowd.{Crowd}
use Rattle.brace_fold.specs.declared.crowd.Depth.{Depth}
use Rattle.brace_fold.specs.declared.crowd.Stretch.{Stretch}
use Rattle.brace_fold.specs.declared.crowd.Depth.TheVariants.{Outside, Once, Twice}
use Rattle.brace_fold.specs.declared.gathering.Entered.{Entered}
use Rattle.brace_fold.specs.declared.scene.Scene.{Scene}
use Rattle.brace_fold.specs.Rows.{rows_in, world_in}
use Rattle.brace_fold.specs.declared.columns.Columns.{Columns}
use Rattle.brace_fold.specs.inner.Sights.{AreCells}

-- the columns of a scene
abbrev pub columns_of : Scene → Columns
columns_of scene = record { classes = scene.classes; ids = scene.ids; states = scene.states }

-- the agents of a scene, row by row
abbrev pub rows : Scene → List Agent
rows scene = rows_in scene.program.now (columns_of scene)

-- the agents of a scene by rising id
abbrev pub world : Scene → List Agent
world scene = world_in scene.program.now (columns_of scene)

-- the agents of a scene are its rows by strictly rising id, its cells are theirs, and its columns
-- are those of its rows
pub record IsScene (scene : Scene) : Type 0 where
  pub rises : RisesById (world scene)
  pub moved : IsPermutation (world scene) (rows scene)
  pub cells : AreCells scene.program.now (rows scene) scene.cells.now
  pub states : (i : ℕ) (column : List ℤ)
      → option_copied (slice_get scene.states.now i) ≡ Some column
      → column ≡ map (λ a. number (value_at a.states i)) (rows scene)
  pub classes : scene.classes.now ≡ map (λ a. a.class) (rows scene)
  pub draws : (site : ℕ) (column : List ℤ) → draws_at scene.draws.now site ≡ Some column
      → column ≡ map (λ a. pos (draw_value scene.seed scene.tick a.id site)) (rows scene)

-- lanes of a depth have an agent of the outer loop, or of the inner one
abbrev pub has_outer : Depth → Bool
has_outer Outside = false
has_outer _ = true

abbrev pub has_inner : Depth → Bool
has_inner Twice = true
has_inner _ = false

-- where there is an agent, it stands in a row
abbrev pub IsFound : Bool → List Agent → ℕ → Option Agent → Type 0
IsFound false agents row found = found ≡ None
IsFound true agents row found =
    (b : Agent) × (found ≡ Some b) × (slice_get agents row ≡ Some b)

-- a lane stands for a scope with these constants
pub record IsLane (scene : Scene) (depth : Depth) (lane : Lane) (scope : Scope) : Type 0 where
  pub tick : scope.tick ≡ scene.tick
  pub seed : scope.seed ≡ scene.seed
  pub this : slice_get (rows scene) lane.this ≡ Some scope.this
  pub outer : IsFound (has_outer depth) (rows scene) lane.outer scope.outer
  pub inner : IsFound (has_inner depth) (rows scene) lane.inner scope.inner
  pub totals : scope.totals ≡ []

-- a column has the number of a constant in each scope, as far as it reaches
pub record IsLocal (n : ℕ) (scopes : List Scope) (column : List ℤ) : Type 0 where
  pub short : length column ≤ length scopes
  pub each : (k : ℕ) (s : Scope) → k < length column
      → slice_index_or column k (pos 0) ≡ number (value_at (slice_index_or scopes k s).locals n)

-- the row of each lane of stretches
abbrev pub spread : List Stretch → List ℕ
spread stretches = flat_map (λ s. replicate s.count s.row) stretches

-- stretches, where they are known, are those of all lanes
abbrev pub AreStretches : List Lane → Option (List Stretch) → Type 0
AreStretches lanes stretches =
    IfSome stretches (λ known. spread known ≡ map (λ l. l.this) lanes)

-- the lanes of a crowd stand for scopes, one for each
pub record Stands (scene : Scene) (crowd : Crowd) (scopes : List Scope) : Type 0 where
  pub long : length crowd.lanes ≡ length scopes
  pub numbered : (k : ℕ) (l : Lane) → k < length scopes
      → (slice_index_or crowd.lanes k l).place ≡ k
  pub lanes : (k : ℕ) (l : Lane) (s : Scope) → k < length scopes
      → IsLane scene crowd.depth (slice_index_or crowd.lanes k l) (slice_index_or scopes k s)
  pub locals : (n : ℕ) (column : List ℤ) → slice_get crowd.locals.items n ≡ Some column
      → IsLocal n scopes column
  pub room : (k : ℕ) (s : Scope) → k < length scopes
      → length (slice_index_or scopes k s).locals ≡ length crowd.locals.items
  pub stretches : AreStretches crowd.lanes crowd.stretches

-- a lane of a crowd stands for a scope, of which it finds the constants at its place
pub record IsIn (scene : Scene) (crowd : Crowd) (lane : Lane) (scope : Scope) : Type 0 where
  pub stands : IsLane scene crowd.depth lane scope
  pub locals : (n : ℕ) (column : List ℤ) → slice_get crowd.locals.items n ≡ Some column
      → lane.place < length column
      → slice_index_or column lane.place (pos 0) ≡ number (value_at scope.locals n)

-- a lane of a part of a crowd stands for a scope that has the constants of the crowd's scope at
-- the lane's place
pub record IsOf (scene : Scene) (depth : Depth) (scopes : List Scope) (lane : Lane) (scope : Scope)
    : Type 0 where
  pub stands : IsLane scene depth lane scope
  pub within : lane.place < length scopes
  pub locals : scope.locals ≡ (slice_index_or scopes lane.place scope).locals

-- lanes of a part of a crowd stand for scopes, one for each
abbrev pub AreOf : Scene → Depth → List Scope → List Lane → List Scope → Type 0
AreOf scene depth scopes [] [] = ⊤
AreOf scene depth scopes (l ∷ lanes) (s ∷ kids) =
    IsOf scene depth scopes l s × AreOf scene depth scopes lanes kids
AreOf scene depth scopes _ _ = false ≡ true

-- a column has, as far as it reaches, what another one has at the places of lanes
pub record IsGathered (lanes : List Lane) (column out : List ℤ) : Type 0 where
  pub short : length out ≤ length lanes
  pub each : (k : ℕ) (l : Lane) → k < length out
      → ((slice_index_or lanes k l).place < length column)
      × (slice_index_or out k (pos 0)
      ≡ slice_index_or column (slice_index_or lanes k l).place (pos 0))

-- each of some columns, gathered
pub record AreGathered (lanes : List Lane) (columns outs : List (List ℤ)) : Type 0 where
  pub long : length outs ≡ length columns
  pub each : (n : ℕ) (out : List ℤ) → slice_get outs n ≡ Some out
      → (column : List ℤ) × (slice_get columns n ≡ Some column) × IsGathered lanes column out

-- a lane whose constants stand at a place
abbrev pub placed_at : ℕ → Lane → Lane
placed_at k lane = record lane { place = k }

-- lanes with their numbers in the list as their places
pub record AreNumbered (lanes out : List Lane) : Type 0 where
  pub long : length out ≡ length lanes
  pub each : (k : ℕ) (l : Lane) → k < length lanes
      → slice_index_or out k l ≡ placed_at k (slice_index_or lanes k l)

-- the agent of a row is one of a class
abbrev pub IsOfClass : List Agent → ℕ → ℕ → Type 0
IsOfClass agents class row =
    (a : Agent) × (slice_get agents row ≡ Some a) × (a.class ≡ class)

-- the agents of some rows are of a class, by a column of classes
abbrev pub AreOfClass : List ℕ → ℕ → List ℕ → Type 0
AreOfClass classes class rows = All (λ row. slice_get classes row ≡ Some class) rows

-- the lane of an agent that asks
abbrev pub asking_at : ℕ → Lane
asking_at row = record { this = row; outer = 0; inner = 0; place = 0 }

-- the depth inside a loop
abbrev pub deeper : Depth → Depth
deeper Outside = Once
deeper _ = Twice

-- a lane inside a loop, at the agent of a row
abbrev pub entered : Depth → Lane → ℕ → Lane
entered Outside lane row =
    record { this = lane.this; outer = row; inner = 0; place = lane.place }
entered _ lane row = record lane { inner = row }

-- where the agents of the outer loop stand, of lanes inside a loop, and those of the inner one
abbrev pub outer_rows : Depth → Entered → Rows
outer_rows Outside lanes = Each lanes.near
outer_rows _ lanes = Each lanes.outer

abbrev pub inner_rows : Depth → Entered → Rows
inner_rows Outside lanes = Same 0
inner_rows _ lanes = Each lanes.near

-- the lanes inside a loop
abbrev pub lanes_inside : Depth → Entered → List Lane
lanes_inside depth lanes =
    lanes_of lanes.count (Each lanes.this) (outer_rows depth lanes)
    (inner_rows depth lanes) (Each lanes.place)

-- there are as many rows of each kind as agents of a loop, and no fewer of these
pub record IsFull (depth : Depth) (lanes : Entered) : Type 0 where
  pub near : lanes.count ≤ length lanes.near.items
  pub this : length lanes.this.items ≡ lanes.count
  pub place : length lanes.place.items ≡ lanes.count
  pub outer : has_outer depth ≡ true → length lanes.outer.items ≡ lanes.count

-- no word from a place up to another is on a side
abbrev pub IsNoneOnSide : Bool → List ℤ → ℕ → ℕ → Type 0
IsNoneOnSide set words from next = (k : ℕ) → from ≤ k → k < next
    → side set (slice_index_or words k (pos 0)) ≡ false

-- of lanes, so many as words, those of some numbers are those on a side before a place
abbrev pub AreTaken : Bool → List ℤ → ℕ → List ℕ → Type 0
AreTaken set words next numbers = (lanes : List Lane) (d : Lane) → length words ≡ length lanes
    → map (λ n. slice_index_or lanes n d) numbers ++ taking set (drop next lanes) (drop next words)
    ≡ taking set lanes words

-- the scopes whose word is set, or those whose word is 0
abbrev pub chosen : Bool → List Scope → List ℤ → List Scope
chosen set [] words = []
chosen set (s ∷ scopes) [] = []
chosen set (s ∷ scopes) (w ∷ words) =
    (if side set w then s ∷ [] else []) ++ chosen set scopes words

-- the scopes in which a constant got the words as its values
abbrev pub bound_to : ℕ → Ty → List Scope → List ℤ → List Scope
bound_to n type [] words = []
bound_to n type (s ∷ scopes) [] = []
bound_to n type (s ∷ scopes) (w ∷ words) =
    bound s n (typed type w) ∷ bound_to n type scopes words
