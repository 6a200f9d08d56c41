use Rattle.std.proofs.Common.{◌≡◌, ◌∙◌, arith}
use Rattle.std.specs.Int.{w64}
use Rattle.std.proofs.lemmas.Int.{to_z-of_z}
use Rattle.brace_grid.specs.inner.Layout.{first_of}
use Rattle.brace_grid.proofs.Places.{place_from_rank, first_of_past, first_of_at, no_cell, place_at_same}
use Rattle.brace_grid.proofs.search.place.Goals as goal

pub returns-then-rank-len-clause-place : goal.returns-then-rank-len-clause-place
returns-then-rank-len-clause-place g c =
    let spots = c.args.layout.now.spots in
    let cells = c.args.layout.now.cells in
    let k = c.rank-rank.result in
    let first : first_of spots cells k ≡ c.look.result.first = first_of_at spots cells k c.look.result (omega arith) (c.look.ensures.value c.look.result) in
    place_at_same spots c.args.column c.args.row _ _ _ _ (to_z-of_z w64 c.args.column c.ranges.column) (to_z-of_z w64 c.args.row c.ranges.row) first (place_from_rank spots cells _ _ c.requires.laid.rise c.requires.laid.cells_of k c.look.result c.rank-rank.ensures.rank)

pub returns-else-rank-len-clause-place : goal.returns-else-rank-len-clause-place
returns-else-rank-len-clause-place g c =
    let spots = c.args.layout.now.spots in
    let cells = c.args.layout.now.cells in
    let k = c.rank-rank.result in
    let first : first_of spots cells k ≡ c.len-else-rank-len.result = first_of_past spots cells k (omega arith) ∙ cc in
    place_at_same spots c.args.column c.args.row _ _ _ _ (to_z-of_z w64 c.args.column c.ranges.column) (to_z-of_z w64 c.args.row c.ranges.row) first (place_from_rank spots cells _ _ c.requires.laid.rise c.requires.laid.cells_of k no_cell c.rank-rank.ensures.rank)
