-- Rows that stand in turn.
use Rattle.std.proofs.Common.{◌≡◌, ◌∙◌, refl, sym, ap, ap₂, ℕ, zero, suc, ◌+◌, ◌-◌, ◌<◌, ◌≤◌, List, [], ◌∷◌, ◌++◌, append-nil, append_assoc, drop, map, length, get_or, slice_get, subst, take, Some, arith}
use Rattle.std.specs.List.{range_with_len}
use Rattle.std.proofs.lemmas.Grind.{flat_map-append}
use Rattle.std.proofs.lemmas.List.{map-append, take_more}
use Rattle.brace_num.proofs.Rows.{row_more}
use Rattle.brace_fold.specs.declared.order.Slice.{Slice}
use Rattle.brace_fold.specs.Rows.{IsPicked}
use Rattle.brace_fold.specs.inner.Picks.{rows_along, rows_between}

-- one slice more
pub along-more : (all : List Slice) (s : Slice)
    → rows_along (all ++ s ∷ []) ≡ rows_along all ++ rows_between s
along-more all s =
    flat_map-append rows_between all (s ∷ [])
    ∙ ap (λ l. rows_along all ++ l) (append-nil (rows_between s))

module _ (rows : List ℕ) (all new : List Slice) (from to k row : ℕ) (low : k < length rows)
    (is : row ≡ get_or rows k 0)
    (so_far : rows_along all ++ range_with_len from (to - from) ≡ take k rows) where
  one : take k rows ++ row ∷ [] ≡ take (k + 1) rows
  one = ap (λ n. take k rows ++ n ∷ []) is ∙ sym (take_more rows k 0 low)

  -- a slice goes on
  pub slice-on : from ≤ to → row ≡ to → new ≡ all
      → rows_along new ++ range_with_len from (row + 1 - from) ≡ take (k + 1) rows
  slice-on turn same kept =
      let more : row + 1 - from ≡ suc (to - from) = omega (arith, turn, same) in
      let on : from + (to - from) ≡ row = omega (arith, turn, same) in
      ap₂ (λ l n. rows_along l ++ range_with_len from n) kept more
      ∙ ap (λ l. rows_along all ++ l) (row_more from (to - from))
      ∙ sym (append_assoc (rows_along all) (range_with_len from (to - from))
      ((from + (to - from)) ∷ []))
      ∙ ap₂ (λ l n. l ++ n ∷ []) so_far on ∙ one

  -- another begins
  pub slice-new : new ≡ all ++ (record { from = from; to = to }) ∷ []
      → rows_along new ++ range_with_len row (row + 1 - row) ≡ take (k + 1) rows
  slice-new more =
      let single : row + 1 - row ≡ 1 = omega arith in
      ap₂ (λ l n. rows_along l ++ range_with_len row n) more single
      ∙ ap (λ l. l ++ row ∷ []) (along-more all (record { from = from; to = to }) ∙ so_far)
      ∙ one

-- ---- what a column has in a slice

behind : {A : Type 0} (x : A) (xs : List A) (from n : ℕ)
    → map (slice_get (x ∷ xs)) (range_with_len (suc from) n)
    ≡ map (slice_get xs) (range_with_len from n)
behind x xs from zero = refl
behind x xs from (suc n) =
    let on : suc from + 1 ≡ suc (from + 1) = omega arith in
    ap (λ l. slice_get xs from ∷ l) (ap (λ a. map (slice_get (x ∷ xs)) (range_with_len a n)) on
    ∙ behind x xs (from + 1) n)

pub between-picked : {A : Type 0} (xs : List A) (from n : ℕ) → from + n ≤ length xs
    → map (slice_get xs) (range_with_len from n) ≡ map Some (take n (drop from xs))
between-picked xs from zero low = refl
between-picked [] from (suc n) low = absurd (omega (arith, low))
between-picked (x ∷ xs) zero (suc n) low =
    let first : 0 + 1 ≡ 1 = omega arith in
    ap (λ l. Some x ∷ l) (ap (λ a. map (slice_get (x ∷ xs)) (range_with_len a n)) first
    ∙ behind x xs 0 n ∙ between-picked xs 0 n (omega (arith, low)))
between-picked (x ∷ xs) (suc from) (suc n) low =
    behind x xs from (suc n) ∙ between-picked xs from (suc n) (omega (arith, low))

-- one slice more is picked
pub between-more : {A : Type 0} (column out new part : List A) (s : Slice) (rows : List ℕ)
    → s.from ≤ s.to → s.to ≤ length column → part ≡ take (s.to - s.from) (drop s.from column)
    → new ≡ out ++ part → IsPicked rows column out
    → IsPicked (rows ++ rows_between s) column new
between-more column out new part s rows turn high same more so_far =
    let low : s.from + (s.to - s.from) ≤ length column = omega (arith, turn, high) in
    map-append (slice_get column) rows (rows_between s)
    ∙ ap₂ (λ xs ys. xs ++ ys) so_far
    (between-picked column s.from (s.to - s.from) low ∙ ap (map Some) (sym same))
    ∙ sym (map-append Some out part) ∙ ap (map Some) (sym more)

pub along-picked : {A : Type 0} (column new : List A) (slices : List Slice) (k : ℕ)
    (s : Slice) → k < length slices → s ≡ get_or slices k s
    → IsPicked (rows_along (take k slices) ++ rows_between s) column new
    → IsPicked (rows_along (take (k + 1) slices)) column new
along-picked column new slices k s low is so_far =
    subst (λ l. IsPicked l column new) (sym (ap rows_along (take_more slices k s low
    ∙ ap (λ x. take k slices ++ x ∷ []) (sym is)) ∙ along-more (take k slices) s)) so_far
