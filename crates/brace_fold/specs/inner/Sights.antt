-- Agents in cells, the runs of the cells around one, and which agents are found there. Only the
-- crate's own functions cite this.
use Rattle.std.specs.Prelude.{◌≡◌, ℕ, ◌-◌, ◌<◌, ◌≤◌, ℤ, pos, ◌+ℤ◌, ◌-ℤ◌, ◌*ℤ◌, ◌<ℤ◌, ◌≤ℤ◌, Bool, true, not, ◌&&◌, ◌==◌, List, ◌++◌, map, filter, take, drop, length, replicate, slice_index_or, Some, is_some}
use Rattle.std.specs.Int.{int_wrap, w32}
use Rattle.std.specs.List.{All, list_all, range_with_len}
use Rattle.std.specs.List.Sorted.{IsPermutation}
use Rattle.brace_model.specs.declared.program.Class.{Class}
use Rattle.brace_model.specs.declared.program.Program.{Program}
use Rattle.brace_model.specs.declared.world.Agent.{Agent}
use Rattle.brace_model.specs.World.{class_of, is_within, x_of, y_of}
use Rattle.brace_model.specs.Value.{Scope}
use Rattle.brace_grid.specs.Grids.{place_of}
use Rattle.brace_grid.specs.Grids as grids
use Rattle.brace_plan.specs.Answers.{greatest_visible}
use Rattle.brace_plan.specs.declared.action.Bound.{Bound}
use Rattle.brace_plan.specs.Acts.{coordinate, limit_in, stands}
use Rattle.brace_fold.specs.Asked.{by_row}
use Rattle.brace_fold.specs.declared.cells.Cells.{Cells}
use Rattle.brace_fold.specs.declared.cells.Sorted.{Sorted}
use Rattle.brace_fold.specs.declared.cells.Run.{Run}
use Rattle.brace_fold.specs.declared.cells.Runs.{Runs}
use Rattle.brace_fold.specs.declared.cells.Spot.{Spot}
use Rattle.brace_fold.specs.declared.halves.Halves.{Halves}
use Rattle.brace_fold.specs.declared.seeing.Cut.{Cut}
use Rattle.brace_fold.specs.declared.seeing.Eye.{Eye}

-- how far apart the numbers of cells are that lie side by side along x
abbrev pub height : ℤ
height = pos 524288

-- the number of the cell that a point is in
abbrev pub cell_number : ℤ → ℤ → ℤ → ℤ
cell_number side x y = (grids.cell_number side x *ℤ height) +ℤ grids.cell_number side y

-- where the agent at a place stands
abbrev pub spot_of : Program → ℤ → ℕ → Agent → Spot
spot_of program side place a = record {
  x = (place_of program a).x;
  y = (place_of program a).y;
  cell = cell_number side (place_of program a).x (place_of program a).y;
  class = a.class;
  place = place;
}

-- spots of agents, one by one; each agent has a class of the program
pub record AreSpots (program : Program) (side : ℤ) (agents : List Agent) (spots : List Spot)
    : Type 0 where
  pub long : length spots ≡ length agents
  pub known : (k : ℕ) (a : Agent) → k < length agents
      → is_some (class_of program (slice_index_or agents k a)) ≡ true
  pub each : (k : ℕ) (s : Spot) (a : Agent) → k < length agents
      → slice_index_or spots k s ≡ spot_of program side k (slice_index_or agents k a)

-- a spot in a row
abbrev pub in_row : ℕ → Spot → Spot
in_row row s = record s { place = row }

-- spots by rising cell
pub record CellsRise (spots : List Spot) : Type 0 where
  pub rise : (i j : ℕ) (d : Spot) → i ≤ j → j < length spots
      → (slice_index_or spots i d).cell ≤ℤ (slice_index_or spots j d).cell

-- a coordinate is in one of the cells, half as many as their numbers are apart, around 0
pub record IsLow (side v : ℤ) : Type 0 where
  pub above : (pos 0 -ℤ (pos 262142 *ℤ side)) ≤ℤ v
  pub below : v <ℤ (pos 262142 *ℤ side)

-- the lower halves of where spots in cells of a side stand, and of four places more; they tell how
-- far apart those are that stand in cells beside one another
pub record AreHalves (side : ℤ) (spots : List Spot) (xs ys : List ℤ) : Type 0 where
  pub small : side ≤ℤ pos 1073741824
  pub few : length spots ≤ 4294967291
  pub across : xs ≡ map (λ s. int_wrap w32 s.x) spots ++ replicate 4 (pos 0)
  pub along : ys ≡ map (λ s. int_wrap w32 s.y) spots ++ replicate 4 (pos 0)
  pub low : (k : ℕ) (d : Spot) → k < length spots → IsLow side (slice_index_or spots k d).y

-- agents, row by row, are in cells of a side no less than any class sees, in the order of these
pub record AreCells (program : Program) (agents : List Agent) (cells : Cells) : Type 0 where
  pub side : ℤ
  pub some : pos 0 <ℤ side
  pub wide : greatest_visible program ≤ℤ side
  pub theirs : AreSpots program side agents cells.spots.items
  pub rise : CellsRise cells.spots.items
  pub halves : (h : Halves) → cells.halves ≡ Some h
      → AreHalves side cells.spots.items h.xs.items h.ys.items

-- cells of the agents of a list, each of which has a row in their order
pub record AreSorted (program : Program) (agents : List Agent) (sorted : Sorted) : Type 0 where
  pub are : AreCells program (by_row agents sorted.order.items) sorted.cells
  pub places : IsPermutation (range_with_len 0 (length agents)) sorted.order.items
  pub moved : IsPermutation agents (by_row agents sorted.order.items)
  pub within : All (λ place. place < length agents) sorted.order.items

-- so many spots come before a cell
pub record IsRank (spots : List Spot) (cell : ℤ) (rank : ℕ) : Type 0 where
  pub within : rank ≤ length spots
  pub front : (k : ℕ) (d : Spot) → k < rank → (slice_index_or spots k d).cell <ℤ cell
  pub rest : (k : ℕ) (d : Spot) → rank ≤ k → k < length spots
      → cell ≤ℤ (slice_index_or spots k d).cell

-- a run of the spots in a cell, and in those below and above it
pub record IsRun (spots : List Spot) (cell : ℤ) (run : Run) : Type 0 where
  pub start : IsRank spots (cell -ℤ pos 1) run.start
  pub end : IsRank spots (cell +ℤ pos 2) run.end

-- the runs around a cell
pub record IsAround (cells : Cells) (cell : ℤ) (runs : Runs) : Type 0 where
  pub west : IsRun cells.spots.items (cell -ℤ height) runs.west
  pub middle : IsRun cells.spots.items cell runs.middle
  pub east : IsRun cells.spots.items (cell +ℤ height) runs.east

-- runs that are those around the cell that they name, if they name one
pub record AreLed (cells : Cells) (runs : Runs) : Type 0 where
  pub around : (cell : ℤ) → runs.cell ≡ Some cell → IsAround cells cell runs

-- a spot meets a cut
abbrev pub meets_cut : Spot → Cut → Bool
meets_cut s cut = stands cut.side cut.limit (coordinate cut.axis (record { x = s.x; y = s.y }))

-- a spot is one of the class that an eye looks for, and within its range
abbrev pub is_seen : Eye → Spot → Bool
is_seen eye s = ((s.class == eye.class) && is_within (pos eye.range) eye.x s.x)
    && is_within (pos eye.range) eye.y s.y

-- a spot is seen, not the eye's own, and meets all cuts
abbrev pub is_found : Eye → List Cut → Spot → Bool
is_found eye cuts s = is_seen eye s && (not (s.place == eye.place) && list_all (meets_cut s) cuts)

-- the places of the spots that are found
abbrev pub found_in : Eye → List Cut → List Spot → List ℕ
found_in eye cuts spots = map (λ s. s.place) (filter (is_found eye cuts) spots)

-- the spots of a run
abbrev pub spots_along : Run → List Spot → List Spot
spots_along run spots = take (run.end - run.start) (drop run.start spots)

-- the places of those that are found in runs
abbrev pub found_around : Eye → List Cut → List Spot → Runs → List ℕ
found_around eye cuts spots runs = found_in eye cuts (spots_along runs.west spots)
    ++ (found_in eye cuts (spots_along runs.middle spots)
    ++ found_in eye cuts (spots_along runs.east spots))

-- rows stand behind so many of a list, up to a count, which keeps those before them
pub record Appended (from count : ℕ) (old new more : List ℕ) : Type 0 where
  pub within : count ≤ length new
  pub rows : take count new ≡ take from old ++ more

-- a bound with its limit in a scope
abbrev pub cut_in : Scope → Bound → Cut
cut_in scope bound =
    record { axis = bound.axis; side = bound.side; limit = limit_in scope bound.limit }

-- the eye of an agent at a place, that looks for a class
pub record IsEye (program : Program) (place : ℕ) (a : Agent) (class : ℕ) (eye : Eye) : Type 0 where
  pub own : Class
  pub has : class_of program a ≡ Some own
  pub range : pos eye.range ≡ own.visible
  pub x : eye.x ≡ x_of own a
  pub y : eye.y ≡ y_of own a
  pub sought : eye.class ≡ class
  pub at : eye.place ≡ place
