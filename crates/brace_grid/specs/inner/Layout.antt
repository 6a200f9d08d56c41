-- How a grid keeps its agents: their spots by rising cell, and the cells that hold one.
use Rattle.std.specs.Prelude.{◌≡◌, ℕ, ◌+◌, ◌-◌, ◌<◌, ◌≤◌, ℤ, int_lt, Bool, true, false, ◌&&◌, ◌||◌, ◌==◌, if◌then◌else◌, List, [], ◌∷◌, ◌++◌, map, length, slice_get, slice_index_or, Option, Some, None}
use Rattle.std.specs.Ordering.{int_eq}
use Rattle.std.specs.List.{list_any, range_with_len}
use Rattle.std.specs.List.Sorted.{IsPermutation}
use Rattle.brace_grid.specs.declared.cells.Spot.{Spot}
use Rattle.brace_grid.specs.declared.cells.Cell.{Cell}
use Rattle.brace_grid.specs.Grids.{Point, origin, place_at, cell_number}

-- the spot of an agent at a place, of an index
abbrev pub spot : Point → ℤ → ℕ → Spot
spot p side i = record {
  column = cell_number side p.x;
  row = cell_number side p.y;
  x = p.x;
  y = p.y;
  index = i;
}

-- the spot of the agent of an index
abbrev pub spot_at : ℤ → List Point → ℕ → Spot
spot_at side places i = spot (place_at places i) side i

-- the spots of all agents, by index
abbrev pub spots_of : ℤ → List Point → List Spot
spots_of side places = map (spot_at side places) (range_with_len 0 (length places))

-- the place of the first spot of an index
abbrev pub place_in : List Spot → ℕ → Point
place_in [] i = origin
place_in (s ∷ spots) i = if s.index == i then record { x = s.x; y = s.y } else place_in spots i

-- the places of all spots, by index
abbrev pub places_in : List Spot → List Point
places_in spots = map (place_in spots) (range_with_len 0 (length spots))

-- cell (c, r) comes before cell (column, row)
abbrev pub before : ℤ → ℤ → ℤ → ℤ → Bool
before c r column row = int_lt c column || (int_eq c column && int_lt r row)

-- spots by rising cell
abbrev pub SpotsRise : List Spot → Type 0
SpotsRise spots = (i j : ℕ) (d : Spot) → i ≤ j → j < length spots
    → before (slice_index_or spots j d).column (slice_index_or spots j d).row
    (slice_index_or spots i d).column (slice_index_or spots i d).row ≡ false

-- cells, each before the next ones
abbrev pub CellsRise : List Cell → Type 0
CellsRise cells = (i j : ℕ) (d : Cell) → i < j → j < length cells
    → before (slice_index_or cells i d).column (slice_index_or cells i d).row
    (slice_index_or cells j d).column (slice_index_or cells j d).row ≡ true

-- a spot is in a cell
abbrev pub IsIn : Spot → Cell → Type 0
IsIn s c = (s.column ≡ c.column) × (s.row ≡ c.row)

-- a spot is in a cell, if there is one
abbrev pub is_in : Spot → Option Cell → Bool
is_in s None = false
is_in s (Some c) = int_eq c.column s.column && int_eq c.row s.row

-- a spot is in the last of some cells
abbrev pub is_in_last : List Cell → Spot → Bool
is_in_last cells s = is_in s (slice_get cells (length cells - 1))

-- the cells of spots and of one more, whose place is given
abbrev pub with_spot : List Cell → Spot → ℕ → List Cell
with_spot cells s place =
    if is_in_last cells s then cells
    else cells ++ record { column = s.column; row = s.row; first = place } ∷ []

-- where the spots of a cell begin, by the cell's number; behind the last cell, where they all end
abbrev pub first_of : List Spot → List Cell → ℕ → ℕ
first_of spots cells k = slice_index_or (map (λ c. c.first) cells) k (length spots)

-- the cells that hold spots: each with the place where its spots begin, which end where those of
-- the next begin
pub record AreCellsOf (spots : List Spot) (cells : List Cell) : Type 0 where
  pub rise : CellsRise cells
  pub begin : first_of spots cells 0 ≡ 0
  pub first_within : (k : ℕ) → k < length cells → first_of spots cells k < length spots
  pub first_in : (k : ℕ) (d : Spot) (e : Cell) → k < length cells
      → IsIn (slice_index_or spots (first_of spots cells k) d) (slice_index_or cells k e)
  pub last_within : (k : ℕ) → k < length cells → 0 < first_of spots cells (k + 1)
  pub last_in : (k : ℕ) (d : Spot) (e : Cell) → k < length cells
      → IsIn (slice_index_or spots (first_of spots cells (k + 1) - 1) d) (slice_index_or cells k e)
  pub known : (column row : ℤ)
      → list_any (λ c. int_eq column c.column && int_eq row c.row) cells
      ≡ list_any (λ s. int_eq column s.column && int_eq row s.row) spots

-- spots by rising cell, and the cells that hold one
pub record AreLaidOut (spots : List Spot) (cells : List Cell) : Type 0 where
  pub rise : SpotsRise spots
  pub cells_of : AreCellsOf spots cells

-- spots and cells of the agents at some places
pub record IsLayoutOf (side : ℤ) (places : List Point) (spots : List Spot) (cells : List Cell)
    : Type 0 where
  pub spots_are_all : IsPermutation (spots_of side places) spots
  pub spots_rise : SpotsRise spots
  pub cells_are_theirs : AreCellsOf spots cells
