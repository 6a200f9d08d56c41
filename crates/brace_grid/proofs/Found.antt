-- What the spots of a layout say of the places that it is of.
use Rattle.std.proofs.Common.{◌≡◌, ◌∙◌, ℕ, zero, suc, ◌<◌, ℤ, pos, ◌≤ℤ◌, Bool, true, false, ◌&&◌, ◌||◌, List, [], ◌∷◌, length, map, get_or, refl, sym, ap, ap₂, arith}
use Rattle.std.specs.Ordering.{int_eq}
use Rattle.std.specs.Cmp.{IsEquivalence}
use Rattle.std.specs.List.{count_by, list_any, range_with_len}
use Rattle.std.specs.Set.{distinct_count, is_member}
use Rattle.std.proofs.lemmas.Int.{ints}
use Rattle.std.proofs.lemmas.List.{length-map}
use Rattle.std.proofs.lemmas.List.FromFn.{fill_by_all}
use Rattle.std.proofs.lemmas.List.Sorted.{sum_by-IsPermutation, list_any-IsPermutation}
use Rattle.std.proofs.lemmas.Map.Keys.{IsDistinct-from_apart}
use Rattle.std.proofs.lemmas.Map.Made.{length-from_keys}
use Rattle.std.proofs.lemmas.Bool.{and_parts, and_from}
use Rattle.brace_num.specs.declared.kinds.Area.{Area}
use Rattle.brace_grid.specs.declared.cells.Spot.{Spot}
use Rattle.brace_grid.specs.declared.cells.Cell.{Cell}
use Rattle.brace_grid.specs.Grids.{Point, origin, place_at, cell_number, cell_of, same_cell, is_between, is_inside, is_touched, inside}
use Rattle.brace_grid.specs.inner.Layout.{spot_at, spots_of, before, IsLayoutOf}
use Rattle.brace_grid.specs.inner.Search.{block_of, is_in_block, is_chosen}
use Rattle.brace_grid.proofs.Counts.{count_same, count_map, count_filter}
use Rattle.brace_grid.proofs.Numbers.{number_rises}

-- places are those at their indices
pub by_index : (places : List Point) → places ≡ map (place_at places) (range_with_len 0 (length places))
by_index places = fill_by_all (place_at places) places (length places) origin refl (λ k h. refl)

pub any_map : {X Y : Type 0} (p : Y → Bool) (f : X → Y) (xs : List X) → list_any p (map f xs) ≡ list_any (λ x. p (f x)) xs
any_map p f [] = refl
any_map p f (x ∷ xs) = ap (λ b. p (f x) || b) (any_map p f xs)

-- what is between two coordinates is in a cell whose number is between theirs
number_between : (side : ℤ) → pos 1 ≤ℤ side → (low high v : ℤ) → is_between low high v ≡ true → is_between (cell_number side low) (cell_number side high) (cell_number side v) ≡ true
number_between side some low high v h =
    of_ends (cell_number side low) (cell_number side high) (cell_number side v) (number_rises side some low v (low_end low high v h)) (number_rises side some v high (high_end low high v h))
  where
    low_end : (low high v : ℤ) → is_between low high v ≡ true → low ≤ℤ v
    low_end low high v h = grind (arith, ints, h)

    high_end : (low high v : ℤ) → is_between low high v ≡ true → v ≤ℤ high
    high_end low high v h = grind (arith, ints, h)

    of_ends : (low high v : ℤ) → low ≤ℤ v → v ≤ℤ high → is_between low high v ≡ true
    of_ends low high v h g = grind (arith, ints, h, g)

-- an area touches the cells of the points in it
touched_inside : (side : ℤ) → pos 1 ≤ℤ side → (area : Area) (p : Point) → is_inside area p ≡ true → is_touched side area p ≡ true
touched_inside side some area p h =
    let (x, y) = and_parts (is_between area.x0 area.x1 p.x) (is_between area.y0 area.y1 p.y) h in
    and_from _ _ (number_between side some area.x0 area.x1 p.x x) (number_between side some area.y0 area.y1 p.y y)

absorbs : (a q t : Bool) → (a ≡ true → t ≡ true) → ((a && q) && t) ≡ (a && q)
absorbs true true t h = h refl
absorbs true false t h = refl
absorbs false q t h = refl

same_cell_laws : IsEquivalence same_cell
same_cell_laws = record {
  refl = λ a. itself a.x a.y;
  symm = λ a b. flips a.x a.y b.x b.y;
  congr = λ a b c h. joins a.x a.y b.x b.y c.x c.y h;
}
  where
    itself : (x y : ℤ) → (int_eq x x && int_eq y y) ≡ true
    itself x y = grind (arith, ints)

    flips : (x y u v : ℤ) → (int_eq x u && int_eq y v) ≡ (int_eq u x && int_eq v y)
    flips x y u v = grind (arith, ints)

    joins : (x y u v r s : ℤ) → (int_eq x u && int_eq y v) ≡ true → (int_eq x r && int_eq y s) ≡ (int_eq u r && int_eq v s)
    joins x y u v r s h = grind (arith, ints, h)

abbrev number_of : Cell → Point
number_of c = record { x = c.column; y = c.row }

differ : (a b c d : ℤ) → before a b c d ≡ true → (int_eq a c && int_eq b d) ≡ false
differ a b c d h = grind (arith, ints, h)

module _ (side : ℤ) (places : List Point) (spots : List Spot) (cells : List Cell) (lay : IsLayoutOf side places spots cells) where
  -- a count over spots is one over indices
  count_spots : (p : Spot → Bool) → count_by p spots ≡ count_by (λ i. p (spot_at side places i)) (range_with_len 0 (length places))
  count_spots p = sum_by-IsPermutation _ (spots_of side places) spots lay.spots_are_all ∙ count_map p (spot_at side places) (range_with_len 0 (length places))

  pub touched_count : (area : Area) → count_by (is_in_block (block_of side area)) spots ≡ count_by (is_touched side area) places
  touched_count area =
      count_spots (is_in_block (block_of side area))
      ∙ sym (count_map (is_touched side area) (place_at places) (range_with_len 0 (length places)))
      ∙ ap (count_by (is_touched side area)) (sym (by_index places))

  pub chosen_count : pos 1 ≤ℤ side → (area : Area) (q : ℕ → Bool) → count_by (is_chosen (is_in_block (block_of side area)) area q) spots ≡ count_by q (inside area places)
  chosen_count some area q =
      count_spots (is_chosen (is_in_block (block_of side area)) area q)
      ∙ count_same _ (λ i. is_inside area (place_at places i) && q i)
      (λ i. absorbs (is_inside area (place_at places i)) (q i) _ (touched_inside side some area (place_at places i))) (range_with_len 0 (length places))
      ∙ sym (count_filter (λ i. is_inside area (place_at places i)) q (range_with_len 0 (length places)))

  cells_apart : (i j : ℕ) (d : Point) → i < j → j < length (map number_of cells) → same_cell (get_or (map number_of cells) i d) (get_or (map number_of cells) j d) ≡ false
  cells_apart i j d less small =
      let e : Cell = record { column = d.x; row = d.y; first = 0 } in
      let far : j < length cells = omega (arith, small, length-map cells number_of) in
      ap₂ same_cell (at_map cells i e) (at_map cells j e) ∙ differ (get_or cells i e).column (get_or cells i e).row (get_or cells j e).column (get_or cells j e).row (lay.cells_are_theirs.rise i j e less far)
    where
      at_map : (cells : List Cell) (k : ℕ) (e : Cell) → get_or (map number_of cells) k (number_of e) ≡ number_of (get_or cells k e)
      at_map [] k e = refl
      at_map (c ∷ cells) zero e = refl
      at_map (c ∷ cells) (suc k) e = at_map cells k e

  members_same : (q : Point) → is_member same_cell (map number_of cells) q ≡ is_member same_cell (map (cell_of side) places) q
  members_same q =
      any_map (same_cell q) number_of cells ∙ lay.cells_are_theirs.known q.x q.y
      ∙ sym (list_any-IsPermutation (λ s. int_eq q.x s.column && int_eq q.y s.row) (spots_of side places) spots lay.spots_are_all)
      ∙ any_map (λ s. int_eq q.x s.column && int_eq q.y s.row) (spot_at side places) (range_with_len 0 (length places))
      ∙ sym (any_map (λ p. same_cell q (cell_of side p)) (place_at places) (range_with_len 0 (length places)))
      ∙ ap (list_any (λ p. same_cell q (cell_of side p))) (sym (by_index places))
      ∙ sym (any_map (same_cell q) (cell_of side) places)

  -- as many cells are kept as hold a place
  pub cells_count : length cells ≡ distinct_count same_cell (map (cell_of side) places)
  cells_count =
      sym (length-map cells number_of)
      ∙ length-from_keys same_cell_laws (map number_of cells) (map (cell_of side) places) (IsDistinct-from_apart same_cell (map number_of cells) cells_apart) members_same
