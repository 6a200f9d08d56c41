-- What a halving search finds, and what a walk over spots adds.
use Rattle.std.specs.Prelude.{◌≡◌, ℕ, ◌<◌, ◌≤◌, ℤ, int_le, Bool, true, false, ◌&&◌, List, length, slice_index_or}
use Rattle.std.specs.Ordering.{int_eq}
use Rattle.brace_num.specs.declared.kinds.Area.{Area}
use Rattle.brace_grid.specs.declared.cells.Spot.{Spot}
use Rattle.brace_grid.specs.declared.cells.Cell.{Cell}
use Rattle.brace_grid.specs.declared.search.Block.{Block}
use Rattle.brace_grid.specs.Grids.{is_between, is_inside, cell_number}
use Rattle.brace_grid.specs.inner.Layout.{before}

-- so many cells come before cell (column, row)
pub record IsRank (cells : List Cell) (column row : ℤ) (rank : ℕ) : Type 0 where
  pub within : rank ≤ length cells
  pub below : (k : ℕ) (d : Cell) → k < rank
      → before (slice_index_or cells k d).column (slice_index_or cells k d).row column row ≡ true
  pub behind : (k : ℕ) (d : Cell) → rank ≤ k → k < length cells
      → before (slice_index_or cells k d).column (slice_index_or cells k d).row column row ≡ false

-- so many spots are in cells before cell (column, row)
pub record IsPlace (spots : List Spot) (column row : ℤ) (place : ℕ) : Type 0 where
  pub within : place ≤ length spots
  pub below : (k : ℕ) (d : Spot) → k < place
      → before (slice_index_or spots k d).column (slice_index_or spots k d).row column row ≡ true
  pub behind : (k : ℕ) (d : Spot) → place ≤ k → k < length spots
      → before (slice_index_or spots k d).column (slice_index_or spots k d).row column row ≡ false

-- a spot is in an area
abbrev pub is_spot_inside : Area → Spot → Bool
is_spot_inside area s = is_inside area (record { x = s.x; y = s.y })

-- a spot is in some rows of a column
abbrev pub is_in_rows : ℤ → ℤ → ℤ → Spot → Bool
is_in_rows column south north s = int_eq s.column column && is_between south north s.row

-- a spot is in a column, and not behind a row of it
abbrev pub is_up_to : ℤ → ℤ → Spot → Bool
is_up_to column north s = int_eq s.column column && int_le s.row north

-- the cells that an area touches
abbrev pub block_of : ℤ → Area → Block
block_of side area = record {
  west = cell_number side area.x0;
  east = cell_number side area.x1;
  south = cell_number side area.y0;
  north = cell_number side area.y1;
}

-- a spot is in a cell of a block
abbrev pub is_in_block : Block → Spot → Bool
is_in_block block s =
    is_between block.west block.east s.column && is_between block.south block.north s.row

-- of the spots that a test takes, those in an area whose index another test takes
abbrev pub is_chosen : (Spot → Bool) → Area → (ℕ → Bool) → Spot → Bool
is_chosen t area q s = (is_spot_inside area s && q s.index) && t s
