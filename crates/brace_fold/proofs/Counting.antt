-- What is found in the three runs around a cell is all that is found.
use Rattle.std.proofs.Common.{◌≡◌, ◌∙◌, ℕ, suc, ◌+◌, ◌<◌, ℤ, pos, ◌+ℤ◌, ◌-ℤ◌, ◌≤ℤ◌, Bool, true, false, cond, ◌&&◌, List, [], ◌∷◌, ◌++◌, length, map, filter, get_or, refl, sym, ap, ap₂, arith}
use Rattle.std.specs.List.{count_by}
use Rattle.std.specs.List.Sorted.{IsNonDecreasing, IsNonDecreasingBy, IsPermutation}
use Rattle.std.proofs.lemmas.Bool.{and_parts}
use Rattle.std.proofs.lemmas.Int.{ints}
use Rattle.std.proofs.lemmas.List.{length-map, get_or-map}
use Rattle.std.proofs.lemmas.List.Kept.{IsNonDecreasingBy-filter}
use Rattle.std.proofs.lemmas.List.Sorted.{sum_by-IsPermutation}
use Rattle.std.proofs.lemmas.List.Sums.{sum_by-append}
use Rattle.brace_model.specs.declared.program.Program.{Program}
use Rattle.brace_model.specs.declared.world.Agent.{Agent}
use Rattle.brace_model.specs.World.{is_within}
use Rattle.brace_grid.proofs.Counts.{HoldsBetween, count-cons, count_filter, count_map, count_part}
use Rattle.brace_grid.proofs.Sorts.{same_sorted}
use Rattle.brace_fold.specs.declared.cells.Cells.{Cells}
use Rattle.brace_fold.specs.declared.cells.Run.{Run}
use Rattle.brace_fold.specs.declared.cells.Runs.{Runs}
use Rattle.brace_fold.specs.declared.cells.Spot.{Spot}
use Rattle.brace_fold.specs.declared.seeing.Cut.{Cut}
use Rattle.brace_fold.specs.declared.seeing.Eye.{Eye}
use Rattle.brace_fold.specs.inner.Sights.{AreCells, IsAround, IsRun, cell_number, found_around, found_in, height, is_found, is_seen, spots_along}
use Rattle.brace_fold.proofs.CellNumbers.{is_along, along_within, along_below, along_above, beside_once, runs_of}

-- a list that has a place has an item
pub some_item : {X : Type 0} (xs : List X) (i : ℕ) → i < length xs → X
some_item [] i low = absurd (omega (arith, low))
some_item (x ∷ xs) i low = x

-- what one of three tests takes, of what another takes
count_three : {X : Type 0} (t a b c : X → Bool) (xs : List X)
    → ((k : ℕ) (d : X) → k < length xs → t (get_or xs k d) ≡ true
    → cond (a (get_or xs k d)) 1 0 + (cond (b (get_or xs k d)) 1 0 + cond (c (get_or xs k d)) 1 0)
    ≡ 1)
    → count_by (λ x. t x && a x) xs
    + (count_by (λ x. t x && b x) xs + count_by (λ x. t x && c x) xs)
    ≡ count_by t xs
count_three t a b c [] once = refl
count_three t a b c (x ∷ xs) once = omega (
  arith,
  count-cons t x xs,
  count-cons (λ x. t x && a x) x xs,
  count-cons (λ x. t x && b x) x xs,
  count-cons (λ x. t x && c x) x xs,
  here (t x) (a x) (b x) (c x) (once 0 x (omega arith)),
  count_three t a b c xs (λ k d low. once (suc k) d (omega (arith, low))),
)
  where
    here : (p q r s : Bool) → (p ≡ true → cond q 1 0 + (cond r 1 0 + cond s 1 0) ≡ 1)
        → cond (p && q) 1 0 + (cond (p && r) 1 0 + cond (p && s) 1 0) ≡ cond p 1 0
    here true q r s h = h refl
    here false q r s h = refl

module _ (eye : Eye) (cuts : List Cut) where
  -- what is found at places that pass a test
  count_found : (q : ℕ → Bool) (spots : List Spot) → count_by q (found_in eye cuts spots)
      ≡ count_by (λ s. is_found eye cuts s && q s.place) spots
  count_found q spots =
      count_map q (λ (s : Spot). s.place) (filter (is_found eye cuts) spots)
      ∙ count_filter (is_found eye cuts) (λ s. q s.place) spots

  module _ (spots : List Spot) (cell : ℤ) (run : Run) (is : IsRun spots cell run) where
    between : HoldsBetween (λ s. is_along cell s.cell) spots run.start run.end
    between = record {
      below = λ j d small less. along_below cell _ (is.start.front j d less);
      within = λ j d small more less. along_within cell _ (is.start.rest j d more small)
          (is.end.front j d less);
      behind = λ j d small more. along_above cell _ (is.end.rest j d more small);
    }

    count_along : (q : ℕ → Bool) → count_by q (found_in eye cuts (spots_along run spots))
        ≡ count_by (λ s. (is_found eye cuts s && q s.place) && is_along cell s.cell) spots
    count_along q =
        count_found q (spots_along run spots)
        ∙ count_part (λ s. is_found eye cuts s && q s.place) (λ s. is_along cell s.cell) spots
        run.start run.end between

-- numbers at most so far apart, and no further than a side
side_apart : (range : ℕ) (side p q : ℤ) → pos range ≤ℤ side → is_within (pos range) p q ≡ true
    → ((q -ℤ p) ≤ℤ side) × ((p -ℤ q) ≤ℤ side)
side_apart range side p q wide h = (grind (arith, ints, wide, h), grind (arith, ints, wide, h))

module _ (program : Program) (agents : List Agent) (cells : Cells)
    (are : AreCells program agents cells) where
  module _ (eye : Eye) (cuts : List Cut) (wide : pos eye.range ≤ℤ are.side) where
    -- what is found is in one run around the eye's cell
    found_once : (k : ℕ) (d : Spot) → k < length cells.spots.items
        → is_found eye cuts (get_or cells.spots.items k d) ≡ true
        → runs_of (cell_number are.side eye.x eye.y) (get_or cells.spots.items k d).cell ≡ 1
    found_once k d low found =
        let s = get_or cells.spots.items k d in
        let seen = and_parts (is_seen eye s) _ found in
        let along = and_parts _ (is_within (pos eye.range) eye.y s.y) seen.0 in
        let across = and_parts _ (is_within (pos eye.range) eye.x s.x) along.0 in
        let x = side_apart eye.range are.side eye.x s.x wide across.1 in
        let y = side_apart eye.range are.side eye.y s.y wide along.1 in
        let a = some_item agents k (omega (arith, low, are.theirs.long)) in
        let is : s ≡ _ = are.theirs.each k d a (omega (arith, low, are.theirs.long)) in
        let cell : s.cell ≡ cell_number are.side s.x s.y =
        ap (λ (s : Spot). s.cell) is
        ∙ sym (ap₂ (cell_number are.side) (ap (λ (s : Spot). s.x) is)
        (ap (λ (s : Spot). s.y) is)) in
        ap (runs_of (cell_number are.side eye.x eye.y)) cell
        ∙ beside_once are.side eye.x eye.y s.x s.y are.some x.0 x.1 y.0 y.1

    module _ (runs : Runs) (around : IsAround cells (cell_number are.side eye.x eye.y) runs) where
      count_around : (q : ℕ → Bool) → count_by q (found_around eye cuts cells.spots.items runs)
          ≡ count_by q (found_in eye cuts cells.spots.items)
      count_around q =
          let cell = cell_number are.side eye.x eye.y in
          let spots = cells.spots.items in
          let t : Spot → Bool = λ s. is_found eye cuts s && q s.place in
          omega (
            arith,
            sum_by-append (λ n. cond (q n) 1 0) (found_in eye cuts (spots_along runs.west spots))
                (found_in eye cuts (spots_along runs.middle spots)
                ++ found_in eye cuts (spots_along runs.east spots)),
            sum_by-append (λ n. cond (q n) 1 0) (found_in eye cuts (spots_along runs.middle spots))
                (found_in eye cuts (spots_along runs.east spots)),
            count_along eye cuts spots (cell -ℤ height) runs.west around.west q,
            count_along eye cuts spots cell runs.middle around.middle q,
            count_along eye cuts spots (cell +ℤ height) runs.east around.east q,
            count_three t (λ s. is_along (cell -ℤ height) s.cell) (λ s. is_along cell s.cell)
                (λ s. is_along (cell +ℤ height) s.cell) spots
                (λ k d low passes. found_once k d low
                (and_parts (is_found eye cuts (get_or spots k d)) _ passes).0),
            count_found eye cuts q spots,
          )

      places_rise : IsNonDecreasingBy (λ (s : Spot). s.place) cells.spots.items
      places_rise i j d le low =
          let a = some_item agents j (omega (arith, low, are.theirs.long)) in
          let first = ap (λ (s : Spot). s.place)
          (are.theirs.each i d a (omega (arith, le, low, are.theirs.long))) in
          let second = ap (λ (s : Spot). s.place)
          (are.theirs.each j d a (omega (arith, low, are.theirs.long))) in
          omega (arith, first, second, le)

      mapped_rise : (spots : List Spot) → IsNonDecreasingBy (λ (s : Spot). s.place) spots
          → IsNonDecreasing (map (λ (s : Spot). s.place) spots)
      mapped_rise spots up i j d le low =
          let there : j < length spots =
          omega (arith, low, length-map spots (λ (s : Spot). s.place)) in
          let e = some_item spots j there in
          omega (
            arith,
            get_or-map (λ (s : Spot). s.place) spots i e d (omega (arith, le, there)),
            get_or-map (λ (s : Spot). s.place) spots j e d there,
            up i j e le there,
          )

      -- places in order that are those found in the runs are all that are found
      pub all_found : (near : List ℕ)
          → IsPermutation (found_around eye cuts cells.spots.items runs) near → IsNonDecreasing near
          → near ≡ found_in eye cuts cells.spots.items
      all_found near moved up =
          same_sorted near (found_in eye cuts cells.spots.items) up
          (mapped_rise (filter (is_found eye cuts) cells.spots.items)
          (IsNonDecreasingBy-filter (λ (s : Spot). s.place) (is_found eye cuts) cells.spots.items
          places_rise))
          (λ q. sum_by-IsPermutation (λ n. cond (q n) 1 0)
          (found_around eye cuts cells.spots.items runs) near moved
          ∙ count_around q)
