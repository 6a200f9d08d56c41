-- Lanes by their rows.
use Rattle.std.specs.Prelude.{ℕ, List, map, slice_index_or}
use Rattle.std.specs.List.{range_with_len}
use Rattle.brace_code.specs.declared.lane.Lane.{Lane}
use Rattle.brace_code.specs.declared.lanes.Rows.{Rows}
use Rattle.brace_code.specs.declared.lanes.Rows.TheVariants.{Number, Same, Each}

-- the row of the lane of a number
abbrev pub row_in : Rows → ℕ → ℕ
row_in Number k = k
row_in (Same row) k = row
row_in (Each rows) k = slice_index_or rows.items k 0

-- the lane of a number
abbrev pub lane_in : Rows → Rows → Rows → Rows → ℕ → Lane
lane_in this outer inner place k = record {
  this = row_in this k;
  outer = row_in outer k;
  inner = row_in inner k;
  place = row_in place k;
}

-- so many lanes
abbrev pub lanes_of : ℕ → Rows → Rows → Rows → Rows → List Lane
lanes_of count this outer inner place =
    map (lane_in this outer inner place) (range_with_len 0 count)

-- a lane at a place
abbrev pub at_place : ℕ → Lane → Lane
at_place place lane = record lane { place = place }
