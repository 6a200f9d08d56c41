-- Agents on a grid of square cells: where they stand, which of them stand in an area, and how many
-- looks it takes at most to find these.
use Rattle.std.specs.Prelude.{ℕ, ◌+◌, ◌*◌, ℤ, pos, int_le, Bool, ◌&&◌, List, map, length, slice_index_or, option_map, unwrap_or}
use Rattle.std.specs.Ordering.{int_eq}
use Rattle.std.specs.List.{count_by, filter, range_with_len}
use Rattle.std.specs.Set.{distinct_count}
use Rattle.std.specs.Int.{int_div_euclid}
use Rattle.std.specs.Int.Digits.{digits_of}
use Rattle.brace_num.specs.declared.kinds.Area.{Area}
use Rattle.brace_model.specs.declared.program.Program.{Program}
use Rattle.brace_model.specs.declared.world.Agent.{Agent}
use Rattle.brace_model.specs.World.{class_of, x_of, y_of}

-- a point of the plane in millionths, or the numbers of a cell along x and along y
pub record Point : Type 0 where
  pub x : ℤ
  pub y : ℤ

-- a grid, as clauses see it: where its agents stand, by index, and the side of its cells
pub record OnGrid : Type 0 where
  pub places : List Point
  pub side : ℤ

-- where both coordinates are 0
abbrev pub origin : Point
origin = record { x = pos 0; y = pos 0 }

-- where an agent stands; one without a class of the program stands at the origin
abbrev pub place_of : Program → Agent → Point
place_of program a =
    unwrap_or (option_map (λ c. record { x = x_of c a; y = y_of c a }) (class_of program a)) origin

-- the grid of agents, with cells of that side
abbrev pub grid_of : Program → List Agent → ℤ → OnGrid
grid_of program agents side = record { places = map (place_of program) agents; side = side }

-- a number is from one number to another, both included
abbrev pub is_between : ℤ → ℤ → ℤ → Bool
is_between low high v = int_le low v && int_le v high

-- a point is in an area, whose four bounds belong to it
abbrev pub is_inside : Area → Point → Bool
is_inside area p = is_between area.x0 area.x1 p.x && is_between area.y0 area.y1 p.y

-- the place of an index
abbrev pub place_at : List Point → ℕ → Point
place_at places i = slice_index_or places i origin

-- the indices of the places in an area, rising
abbrev pub inside : Area → List Point → List ℕ
inside area places =
    filter (λ i. is_inside area (place_at places i)) (range_with_len 0 (length places))

-- the number along an axis of the cells that a coordinate is in: how often their side goes into it,
-- rounded down
abbrev pub cell_number : ℤ → ℤ → ℤ
cell_number side v = int_div_euclid v side

-- the cell that a point is in
abbrev pub cell_of : ℤ → Point → Point
cell_of side p = record { x = cell_number side p.x; y = cell_number side p.y }

-- an area touches the cell that a point is in: its number lies between those of the area's ends,
-- along both axes
abbrev pub is_touched : ℤ → Area → Point → Bool
is_touched side area p =
    is_between (cell_number side area.x0) (cell_number side area.x1) (cell_number side p.x)
    && is_between (cell_number side area.y0) (cell_number side area.y1) (cell_number side p.y)

-- two cells have the same numbers
abbrev pub same_cell : Point → Point → Bool
same_cell a b = int_eq a.x b.x && int_eq a.y b.y

-- how many cells hold an agent
abbrev pub kept_cells : OnGrid → ℕ
kept_cells grid = distinct_count same_cell (map (cell_of grid.side) grid.places)

-- how many binary digits a number has; none for 0
abbrev pub digits : ℕ → ℕ
digits n = length (digits_of 2 n)

-- how many looks at agents and cells a probe takes at most: one at each agent in a touched cell,
-- and for each of 3 by 3 cells a halving search and two more
abbrev pub most_looks : OnGrid → Area → ℕ
most_looks grid area =
    count_by (is_touched grid.side area) grid.places + 9 * (2 + digits (kept_cells grid))
