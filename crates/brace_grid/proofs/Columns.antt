-- What a column adds: the spots in its rows, which stand between two places.
use Rattle.std.proofs.Common.{◌≡◌, ◌∙◌, ℕ, ◌+◌, ◌-◌, ℤ, pos, ◌+ℤ◌, Bool, true, false, ◌&&◌, List, ◌++◌, length, map, take, drop, sym, ap, arith}
use Rattle.std.specs.Ordering.{int_eq}
use Rattle.std.specs.List.{count_by, filter}
use Rattle.std.proofs.lemmas.Int.{ints}
use Rattle.std.proofs.lemmas.List.{length-take-le, length-drop}
use Rattle.std.proofs.lemmas.List.Sums.{sum_by-append}
use Rattle.brace_num.specs.declared.kinds.Area.{Area}
use Rattle.brace_grid.specs.declared.cells.Spot.{Spot}
use Rattle.brace_grid.specs.Grids.{is_between}
use Rattle.brace_grid.specs.inner.Layout.{before}
use Rattle.brace_grid.specs.inner.Search.{IsPlace, is_spot_inside, is_in_rows, is_chosen}
use Rattle.brace_grid.proofs.Counts.{HoldsBetween, count_part, count_map, count_filter, count_all}

rows_below : (column south north c r : ℤ) → before c r column south ≡ true → (int_eq c column && is_between south north r) ≡ false
rows_below column south north c r h = grind (arith, ints, h)

rows_within : (column south north c r : ℤ) → before c r column south ≡ false → before c r column (north +ℤ pos 1) ≡ true → (int_eq c column && is_between south north r) ≡ true
rows_within column south north c r h k = grind (arith, ints, h, k)

rows_behind : (column south north c r : ℤ) → before c r column (north +ℤ pos 1) ≡ false → (int_eq c column && is_between south north r) ≡ false
rows_behind column south north c r h = grind (arith, ints, h)

module _ (spots : List Spot) (column south north : ℤ) (a b : ℕ) (start : IsPlace spots column south a) (end : IsPlace spots column (north +ℤ pos 1) b) where
  between : HoldsBetween (is_in_rows column south north) spots a b
  between = record {
    below = λ j d small less. rows_below column south north _ _ (start.below j d less);
    within = λ j d small more less. rows_within column south north _ _ (start.behind j d more small) (end.below j d less);
    behind = λ j d small more. rows_behind column south north _ _ (end.behind j d more small);
  }

  pub column_len : b - a ≡ count_by (is_in_rows column south north) spots
  column_len =
      let long : length (take (b - a) (drop a spots)) ≡ b - a = length-take-le (b - a) (drop a spots) (omega (arith, length-drop a spots, end.within)) in
      sym long ∙ sym (count_all (take (b - a) (drop a spots))) ∙ count_part (λ s. true) (is_in_rows column south north) spots a b between

  pub column_found : (area : Area) (old new : List ℕ) → new ≡ old ++ map (λ s. s.index) (filter (is_spot_inside area) (take (b - a) (drop a spots)))
      → (q : ℕ → Bool) → count_by q new ≡ count_by q old + count_by (is_chosen (is_in_rows column south north) area q) spots
  column_found area old new e q =
      let part = take (b - a) (drop a spots) in
      ap (count_by q) e ∙ sum_by-append _ old _
      ∙ ap (λ n. count_by q old + n)
      (count_map q (λ (s : Spot). s.index) (filter (is_spot_inside area) part) ∙ count_filter (is_spot_inside area) (λ s. q s.index) part
      ∙ count_part (λ s. is_spot_inside area s && q s.index) (is_in_rows column south north) spots a b between)
