-- Spots in the order of cells are still those of all places.
use Rattle.std.proofs.Common.{◌≡◌, ◌∙◌, ℕ, zero, suc, ◌+◌, ◌<◌, ℤ, Bool, true, false, cond, not, ◌&&◌, ◌||◌, ◌==◌, List, [], ◌∷◌, ◌++◌, length, map, get_or, refl, sym, ap, ap₂, subst, arith, ⊎_elim}
use Rattle.std.specs.Ordering.{int_eq, int_cmp, is_lt, ordering_then}
use Rattle.std.specs.declared.cmp.Ordering.{Ordering}
use Rattle.std.specs.Cmp.{IsTotalOrder, int_cmp_total, on_total, then_total}
use Rattle.std.specs.List.{count_by, list_any, range_with_len}
use Rattle.std.specs.List.Sorted.{IsPermutation, IsSortedByKey}
use Rattle.std.proofs.lemmas.Int.{ints}
use Rattle.std.proofs.lemmas.Bool.{cases_Bool}
use Rattle.std.proofs.lemmas.Bool.Decides.{nat_tests}
use Rattle.std.proofs.lemmas.List.{length-map}
use Rattle.std.proofs.lemmas.List.Folds.{list_any_at}
use Rattle.std.proofs.lemmas.List.FromFn.{fill_by_all, length-range_with_len, get_or-range_with_len, map-range_with_len_more}
use Rattle.std.proofs.lemmas.List.Sorted.{sum_by-IsPermutation, list_any-IsPermutation, length_permutation, ranks_by, sorted_far}
use Rattle.brace_grid.specs.declared.cells.Spot.{Spot}
use Rattle.brace_grid.specs.declared.cells.Cell.{Cell}
use Rattle.brace_grid.specs.Grids.{Point, origin, place_at}
use Rattle.brace_grid.specs.inner.Layout.{spot, spot_at, spots_of, place_in, places_in, before, SpotsRise, AreCellsOf, IsLayoutOf}
use Rattle.brace_grid.proofs.Counts.{count-cons, count_none, count_map}
use Rattle.brace_grid.proofs.Found.{any_map}

-- the order of pairs of numbers
abbrev pub pair_cmp : ℤ × ℤ → ℤ × ℤ → Ordering
pair_cmp x y = ordering_then (int_cmp x.0 y.0) (int_cmp x.1 y.1)

pair_total : IsTotalOrder pair_cmp
pair_total = then_total (on_total (λ (x : ℤ × ℤ). x.0) int_cmp_total) (on_total (λ (x : ℤ × ℤ). x.1) int_cmp_total)

abbrev pub cell_key : Spot → ℤ × ℤ
cell_key s = (s.column, s.row)

lt_is_before : (a b c d : ℤ) → is_lt (pair_cmp (a, b) (c, d)) ≡ before a b c d
lt_is_before a b c d = grind (arith, ints)

pub rise_from_sort : (spots : List Spot) → IsSortedByKey cell_key pair_cmp spots → SpotsRise spots
rise_from_sort spots up = λ i j d h small.
    sym (lt_is_before (get_or spots j d).column (get_or spots j d).row (get_or spots i d).column (get_or spots i d).row) ∙ sorted_far (λ x y. is_lt (pair_cmp (cell_key x) (cell_key y))) (ranks_by pair_total cell_key) spots up i j d h small

pub at_mapped : {X : Type 0} (f : X → Point) (xs : List X) (i : ℕ) (x : X) → i < length xs → x ≡ get_or xs i x → f x ≡ place_at (map f xs) i
at_mapped f [] i x h e = absurd (omega (arith, h))
at_mapped f (y ∷ xs) zero x h e = ap f e
at_mapped f (y ∷ xs) (suc i) x h e = at_mapped f xs i x (omega (arith, h)) e

-- an agent more
pub spots_more : (side : ℤ) (places : List Point) (spots : List Spot) (i : ℕ) (p : Point) → p ≡ place_at places i
    → spots ≡ map (spot_at side places) (range_with_len 0 i) → spots ++ spot p side i ∷ [] ≡ map (spot_at side places) (range_with_len 0 (i + 1))
spots_more side places spots i p e so_far =
    ap₂ (λ l q. l ++ spot q side i ∷ []) so_far e ∙ sym (map-range_with_len_more (spot_at side places) 0 i i (omega arith))

abbrev point : ℤ → ℤ → Point
point x y = record { x = x; y = y }

-- what stands at no other place than p and at some has p's place
find_place : (i : ℕ) (p : Point) (spots : List Spot) → list_any (λ s. s.index == i) spots ≡ true
    → count_by (λ s. (s.index == i) && not (int_eq s.x p.x && int_eq s.y p.y)) spots ≡ 0 → place_in spots i ≡ p
find_place i p [] some none = absurd (cc)
find_place i p (s ∷ spots) some none =
    at (s.index == i) (int_eq s.x p.x && int_eq s.y p.y) _ _ (same s.x s.y p.x p.y) some (sym none ∙ count-cons (λ s. (s.index == i) && not (int_eq s.x p.x && int_eq s.y p.y)) s spots)
    (λ a b. find_place i p spots a b)
  where
    same : (x y u v : ℤ) → (int_eq x u && int_eq y v) ≡ true → (x ≡ u) × (y ≡ v)
    same x y u v h = (grind (arith, ints, h), grind (arith, ints, h))

    at : (is ok any : Bool) (rest : ℕ) → (ok ≡ true → (s.x ≡ p.x) × (s.y ≡ p.y)) → (is || any) ≡ true → 0 ≡ cond (is && not ok) 1 0 + rest
        → (any ≡ true → rest ≡ 0 → place_in spots i ≡ p) → cond is (record { x = s.x; y = s.y }) (place_in spots i) ≡ p
    at true true any rest e h n f = let (a, b) = e refl in ap₂ point a b
    at true false any rest e h n f = absurd (omega (arith, n))
    at false ok any rest e h n f = f h (omega (arith, n))

module _ (side : ℤ) (places : List Point) (spots : List Spot) (moved : IsPermutation (spots_of side places) spots) where
  place_found : (k : ℕ) → k < length places → place_at places k ≡ place_in spots k
  place_found k h =
      let range = range_with_len 0 (length places) in
      let some : list_any (λ s. s.index == k) spots ≡ true =
      sym (list_any-IsPermutation (λ s. s.index == k) (spots_of side places) spots moved) ∙ any_map (λ s. s.index == k) (spot_at side places) range
      ∙ list_any_at (λ j. j == k) range k 0 (omega (arith, h, length-range_with_len 0 (length places))) (itself k _ (get_or-range_with_len 0 (length places) k 0 h)) in
      let none : count_by (λ s. (s.index == k) && not (int_eq s.x (place_at places k).x && int_eq s.y (place_at places k).y)) spots ≡ 0 =
      sum_by-IsPermutation _ (spots_of side places) spots moved
      ∙ count_map (λ s. (s.index == k) && not (int_eq s.x (place_at places k).x && int_eq s.y (place_at places k).y)) (spot_at side places) range
      ∙ count_none _ range (λ j d small. only (get_or range j d)) in
      sym (find_place k (place_at places k) spots some none)
    where
      itself : (k j : ℕ) → j ≡ 0 + k → (j == k) ≡ true
      itself k j e = grind (arith, nat_tests, e)

      eq_self : (x y : ℤ) → not (int_eq x x && int_eq y y) ≡ false
      eq_self x y = grind (arith, ints)

      number : (j : ℕ) → (j == k) ≡ true → k ≡ j
      number j e = grind (arith, nat_tests, e)

      none_there : (j : ℕ) → (j == k) ≡ false → ((j == k) && not (int_eq (place_at places j).x (place_at places k).x && int_eq (place_at places j).y (place_at places k).y)) ≡ false
      none_there j e = ap (λ b. b && not (int_eq (place_at places j).x (place_at places k).x && int_eq (place_at places j).y (place_at places k).y)) e

      here : (j : ℕ) → (j == k) ≡ true → ((j == k) && not (int_eq (place_at places j).x (place_at places k).x && int_eq (place_at places j).y (place_at places k).y)) ≡ false
      here j e = ap (λ b. b && not (int_eq (place_at places j).x (place_at places k).x && int_eq (place_at places j).y (place_at places k).y)) e
          ∙ subst (λ n. not (int_eq (place_at places j).x (place_at places n).x && int_eq (place_at places j).y (place_at places n).y) ≡ false) (sym (number j e))
          (eq_self (place_at places j).x (place_at places j).y)

      only : (j : ℕ) → ((j == k) && not (int_eq (place_at places j).x (place_at places k).x && int_eq (place_at places j).y (place_at places k).y)) ≡ false
      only j = ⊎_elim (here j) (none_there j) (cases_Bool (j == k))

  pub places_back : places_in spots ≡ places
  places_back =
      let long : length spots ≡ length places = length_permutation (spots_of side places) spots moved ∙ length-map (range_with_len 0 (length places)) (spot_at side places) ∙ length-range_with_len 0 (length places) in
      ap (λ n. map (place_in spots) (range_with_len 0 n)) long ∙ sym (fill_by_all (place_in spots) places (length places) origin refl place_found)

-- all spots in the order of cells, with their cells, are a layout
pub laid : (side : ℤ) (places : List Point) (first spots : List Spot) (cells : List Cell) → first ≡ spots_of side places → IsPermutation first spots
    → SpotsRise spots → AreCellsOf spots cells → IsLayoutOf side (places_in spots) spots cells × (places_in spots ≡ places)
laid side places first spots cells e moved rise theirs =
    let all : IsPermutation (spots_of side places) spots = subst (λ l. IsPermutation l spots) e moved in
    let back : places_in spots ≡ places = places_back side places spots all in (
      record {
        spots_are_all = subst (λ l. IsPermutation (spots_of side l) spots) (sym back) all;
        spots_rise = rise;
        cells_are_theirs = theirs;
      },
      back,
    )
