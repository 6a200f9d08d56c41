-- What is gathered from the cells that an area touches.
use Rattle.std.proofs.Common.{◌≡◌, ◌∙◌, ℕ, ℤ, ◌+◌, ◌*◌, ◌≤◌, pos, ◌≤ℤ◌, Bool, List, [], length, ap, subst, arith}
use Rattle.std.specs.List.{count_by}
use Rattle.std.specs.List.Sorted.{IsPermutation, IsSortedByKey}
use Rattle.std.specs.Ordering.{nat_cmp}
use Rattle.std.proofs.lemmas.List.Sorted.{sum_by-IsPermutation, IsNonDecreasingBy-from_sort}
use Rattle.brace_num.specs.declared.kinds.Area.{Area}
use Rattle.brace_grid.specs.declared.cells.Spot.{Spot}
use Rattle.brace_grid.specs.declared.cells.Cell.{Cell}
use Rattle.brace_grid.specs.declared.search.Block.{Block}
use Rattle.brace_grid.specs.Grids.{OnGrid, inside, most_looks, kept_cells, digits}
use Rattle.brace_grid.specs.inner.Layout.{IsLayoutOf}
use Rattle.brace_grid.specs.inner.Search.{block_of, is_in_block, is_chosen}
use Rattle.brace_grid.proofs.Found.{chosen_count, touched_count, cells_count}
use Rattle.brace_grid.proofs.Sorts.{same_sorted, inside_up}

module _ (grid : OnGrid) (area : Area) (spots : List Spot) (cells : List Cell) (lay : IsLayoutOf grid.side grid.places spots cells) where
  probe_looks : (from to : ℕ) → to ≤ from + (count_by (is_in_block (block_of grid.side area)) spots + 6 * (1 + digits (length cells))) → to ≤ from + most_looks grid area
  probe_looks from to h =
      let kept : digits (length cells) ≡ digits (kept_cells grid) = ap digits (cells_count grid.side grid.places spots cells lay) in
      omega (arith, h, touched_count grid.side grid.places spots cells lay area, kept)

  pub probe_found : pos 1 ≤ℤ grid.side → (out sorted : List ℕ)
      → ((q : ℕ → Bool) → count_by q out ≡ count_by q [] + count_by (is_chosen (is_in_block (block_of grid.side area)) area q) spots)
      → IsPermutation out sorted → IsSortedByKey (λ x. x) nat_cmp sorted → sorted ≡ inside area grid.places
  probe_found some out sorted found moved up =
      same_sorted sorted (inside area grid.places) (IsNonDecreasingBy-from_sort (λ x. x) sorted up) (inside_up area grid.places)
      (λ q. sum_by-IsPermutation _ out sorted moved ∙ found q ∙ omega (arith, chosen_count grid.side grid.places spots cells lay some area q))

-- the looks of a probe of a grid, by what stands within it
pub looks_within : (grid inner : OnGrid) (area : Area) (spots : List Spot) (cells : List Cell) (side : ℤ) (block : Block) → inner ≡ grid → IsLayoutOf inner.side inner.places spots cells
    → side ≡ inner.side → block ≡ block_of side area → (from to : ℕ) → to ≤ from + (count_by (is_in_block block) spots + 6 * (1 + digits (length cells))) → to ≤ from + most_looks grid area
looks_within grid inner area spots cells side block is lay same block_is from to h =
    probe_looks grid area spots cells (subst (λ v. IsLayoutOf v.side v.places spots cells) is lay) from to
    (subst (λ b. to ≤ from + (count_by (is_in_block b) spots + 6 * (1 + digits (length cells)))) (block_is ∙ ap (λ z. block_of z area) (same ∙ ap (λ v. v.side) is)) h)
