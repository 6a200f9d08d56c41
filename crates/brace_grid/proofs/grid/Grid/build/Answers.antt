use Rattle.std.proofs.Common.{◌≡◌, ◌∙◌, pos, ◌≤ℤ◌, ℤ, List, map, sym, ap₂, subst, to_z, of_z}
use Rattle.std.specs.Int.{w64}
use Rattle.std.specs.List.Sorted.{IsPermutation}
use Rattle.std.proofs.lemmas.Int.{to_z-of_z}
use Rattle.brace_grid.specs.Grids.{Point, OnGrid, place_of}
use Rattle.brace_grid.specs.inner.Layout.{SpotsRise, AreCellsOf, IsLayoutOf, places_in}
use Rattle.brace_grid.proofs.Laid.{laid}
use Rattle.brace_grid.proofs.grid.Grid.build.Goals.{After-from_vec-2}
use Rattle.brace_grid.proofs.grid.Grid.build.Goals as goal

is_laid : (c : After-from_vec-2) → IsLayoutOf (to_z w64 (of_z w64 c.args.cell)) (places_in c.from_vec.result) c.from_vec.result c.from_vec-2.result × (places_in c.from_vec.result ≡ map (place_of c.args.program.now) c.args.agents.now)
is_laid c =
    let first = c.in_ok-spots.spots.items in
    let spots = c.from_vec.result in
    let cells = c.from_vec-2.result in
    let moved : IsPermutation first spots = subst (IsPermutation first) (sym c.from_vec.ensures) c.sort_by_cell.ensures.moved in
    let rise : SpotsRise spots = subst SpotsRise (sym c.from_vec.ensures) c.sort_by_cell.ensures.rise in
    let theirs : AreCellsOf spots cells =
    subst (λ l. AreCellsOf l cells) (c.as_slice.ensures.value ∙ sym c.from_vec.ensures) (subst (AreCellsOf c.as_slice.result.now) (sym c.from_vec-2.ensures) c.in_ok-cells.ensures) in
    laid (to_z w64 (of_z w64 c.args.cell)) (map (place_of c.args.program.now) c.args.agents.now) first spots cells c.in_ok-spots.ensures moved rise theirs

pub invariant_of-result : goal.invariant_of-result
invariant_of-result c =
    let whole : to_z w64 (of_z w64 c.args.cell) ≡ c.args.cell = to_z-of_z w64 c.args.cell c.ranges.cell in
    (subst (λ z. pos 1000000 ≤ℤ z) (sym whole) c.requires.side, (is_laid c).0)

abbrev on_grid : List Point → ℤ → OnGrid
on_grid places side = record { places = places; side = side }

pub returns : goal.returns
returns c = ap₂ on_grid (is_laid c).1 (to_z-of_z w64 c.args.cell c.ranges.cell)
