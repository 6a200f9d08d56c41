use Rattle.std.proofs.Common.{◌≡◌, map}
use Rattle.std.specs.List.{range_with_len}
use Rattle.brace_grid.specs.Grids.{place_of}
use Rattle.brace_grid.specs.inner.Layout.{spot_at}
use Rattle.brace_grid.proofs.spots.spots_of.Given as goal

abbrev pub invariant-loop-i : goal.invariant-loop-i
invariant-loop-i l = l.spots.items ≡ map (spot_at l.side (map (place_of l.program) l.agents)) (range_with_len 0 l.i)
