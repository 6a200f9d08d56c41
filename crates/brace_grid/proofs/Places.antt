-- The place of the first spot that is not before a cell, from the rank of the cell.
use Rattle.std.proofs.Common.{◌≡◌, ◌∙◌, ℕ, zero, suc, ◌+◌, ◌-◌, ◌<◌, ◌≤◌, ◌⊎◌, inl, inr, ℤ, pos, ◌+ℤ◌, List, [], ◌∷◌, length, map, get_or, Bool, true, false, refl, sym, ap, subst, arith, ⊎_elim}
use Rattle.std.proofs.lemmas.List.{get_or_past, length-map}
use Rattle.std.proofs.lemmas.Bool.{cases_lt, true≢false}
use Rattle.brace_grid.specs.declared.cells.Spot.{Spot}
use Rattle.brace_grid.specs.declared.cells.Cell.{Cell}
use Rattle.brace_grid.specs.inner.Layout.{before, first_of, SpotsRise, AreCellsOf, IsIn}
use Rattle.brace_grid.specs.inner.Search.{IsRank, IsPlace, is_up_to}
use Rattle.brace_grid.proofs.Orders.{before_le, behind_le, up_to_before, past_behind}

pub no_cell : Cell
no_cell = record { column = pos 0; row = pos 0; first = 0 }

-- behind the last cell all spots end
pub first_of_past : (spots : List Spot) (cells : List Cell) (k : ℕ) → length cells ≤ k → first_of spots cells k ≡ length spots
first_of_past spots cells k h = get_or_past (map (λ c. c.first) cells) k (length spots) (omega (arith, length-map cells (λ c. c.first)))

pub place_at_same : (spots : List Spot) (column row c r : ℤ) (m n : ℕ) → c ≡ column → r ≡ row → m ≡ n → IsPlace spots c r m → IsPlace spots column row n
place_at_same spots column row c r m n e f g h = subst (IsPlace spots column row) g (subst (λ z. IsPlace spots column z m) f (subst (λ z. IsPlace spots z r m) e h))

-- a spot of a cell stands to others as the cell does
in_before : (s : Spot) (c : Cell) (column row : ℤ) → IsIn s c → before s.column s.row column row ≡ before c.column c.row column row
in_before s c column row h = cc

module _ (spots : List Spot) (cells : List Cell) (column row : ℤ) (rise : SpotsRise spots) (theirs : AreCellsOf spots cells) where
  place_within : (k : ℕ) → k ≤ length cells → first_of spots cells k ≤ length spots
  place_within k h =
      ⊎_elim
      (λ (less : k < length cells). omega (arith, theirs.first_within k less))
      (λ (past : length cells ≤ k). omega (arith, first_of_past spots cells k past))
      (cases_lt k (length cells))

  place_below : (k : ℕ) (e : Cell) → IsRank cells column row k → (j : ℕ) (d : Spot) → j < first_of spots cells k
      → before (get_or spots j d).column (get_or spots j d).row column row ≡ true
  place_below zero e rank j d less = absurd (omega (arith, less, theirs.begin))
  place_below (suc k) e rank j d less =
      let h : k < length cells = omega (arith, rank.within) in
      let one : suc k ≡ k + 1 = omega arith in
      let less' : j < first_of spots cells (k + 1) = subst (λ n. j < first_of spots cells n) one less in
      let last = first_of spots cells (k + 1) - 1 in
      let cell_below = rank.below k e (omega arith) in
      let last_below : before (get_or spots last d).column (get_or spots last d).row column row ≡ true = in_before (get_or spots last d) (get_or cells k e) column row (theirs.last_in k d e h) ∙ cell_below in
      let within : first_of spots cells (k + 1) ≤ length spots = place_within (k + 1) (omega (arith, h)) in
      before_le _ _ (get_or spots last d).column (get_or spots last d).row column row
      (rise j last d (omega (arith, less')) (omega (arith, within, theirs.last_within k h))) last_below

  place_behind : (k : ℕ) (e : Cell) → IsRank cells column row k → (j : ℕ) (d : Spot) → first_of spots cells k ≤ j → j < length spots
      → before (get_or spots j d).column (get_or spots j d).row column row ≡ false
  place_behind k e rank j d more small =
      ⊎_elim
      (λ (less : k < length cells).
      let first = first_of spots cells k in
      let first_behind : before (get_or spots first d).column (get_or spots first d).row column row ≡ false =
      in_before (get_or spots first d) (get_or cells k e) column row (theirs.first_in k d e less) ∙ rank.behind k e (omega arith) less in
      behind_le (get_or spots first d).column (get_or spots first d).row _ _ column row (rise first j d more small) first_behind)
      (λ (past : length cells ≤ k). absurd (omega (arith, first_of_past spots cells k past, more, small)))
      (cases_lt k (length cells))

  pub place_from_rank : (k : ℕ) (e : Cell) → IsRank cells column row k → IsPlace spots column row (first_of spots cells k)
  place_from_rank k e rank = record {
    within = place_within k rank.within;
    below = place_below k e rank;
    behind = place_behind k e rank;
  }

pub first_of_at : (spots : List Spot) (cells : List Cell) (k : ℕ) (c : Cell) → k < length cells → c ≡ get_or cells k c → first_of spots cells k ≡ c.first
first_of_at spots [] k c h is = absurd (omega (arith, h))
first_of_at spots (x ∷ cells) zero c h is = ap (λ y. y.first) (sym is)
first_of_at spots (x ∷ cells) (suc k) c h is = first_of_at spots cells k c (omega (arith, h)) is

-- ---- spots of a column from a row on, as far as they are not behind another row

-- some number of spots comes before a cell
pub some_place : (spots : List Spot) → SpotsRise spots → (column row : ℤ) → (n : ℕ) × IsPlace spots column row n
some_place [] rise column row = (
  0,
  record {
    within = omega arith;
    below = λ k d less. absurd (omega (arith, less));
    behind = λ k d more small. absurd (omega (arith, small));
  },
)
some_place (s ∷ spots) rise column row =
    from (before s.column s.row column row) refl (some_place spots (λ i j d low small. rise (suc i) (suc j) d (omega (arith, low)) (omega (arith, small))) column row)
  where
    below : before s.column s.row column row ≡ true → (n : ℕ) → IsPlace spots column row n → (k : ℕ) (d : Spot) → k < suc n
        → before (get_or (s ∷ spots) k d).column (get_or (s ∷ spots) k d).row column row ≡ true
    below is n place zero d less = is
    below is n place (suc k) d less = place.below k d (omega (arith, less))

    behind : (n : ℕ) → IsPlace spots column row n → (k : ℕ) (d : Spot) → suc n ≤ k → k < length (s ∷ spots)
        → before (get_or (s ∷ spots) k d).column (get_or (s ∷ spots) k d).row column row ≡ false
    behind n place zero d more small = absurd (omega (arith, more))
    behind n place (suc k) d more small = place.behind k d (omega (arith, more)) (omega (arith, small))

    from : (b : Bool) → before s.column s.row column row ≡ b → ((n : ℕ) × IsPlace spots column row n) → (n : ℕ) × IsPlace (s ∷ spots) column row n
    from true is (n, place) = (suc n, record { within = omega (arith, place.within); below = below is n place; behind = behind n place })
    from false is rest = (
      0,
      record {
        within = omega arith;
        below = λ k d less. absurd (omega (arith, less));
        behind = λ k d more small. behind_le s.column s.row _ _ column row (rise 0 k d more small) is;
      },
    )

-- numbers that are the same have the same spots up to them
pub up_to_same : (column north c r : ℤ) (s : Spot) (b : Bool) → c ≡ column → r ≡ north → is_up_to c r s ≡ b → is_up_to column north s ≡ b
up_to_same column north c r s b e f h = subst (λ z. is_up_to column z s ≡ b) f (subst (λ z. is_up_to z r s ≡ b) e h)

-- so are those that a walk came past
pub walked_same : (column north c r : ℤ) (spots : List Spot) (start i : ℕ) → c ≡ column → r ≡ north
    → ((k : ℕ) (d : Spot) → start ≤ k → k < i → is_up_to c r (get_or spots k d) ≡ true)
    → (k : ℕ) (d : Spot) → start ≤ k → k < i → is_up_to column north (get_or spots k d) ≡ true
walked_same column north c r spots start i e f walked k d more less =
    up_to_same column north c r (get_or spots k d) true e f (walked k d more less)

-- one more spot that is up to a row
pub walked_more : (spots : List Spot) (column north : ℤ) (start i : ℕ) (s : Spot) → ((d : Spot) → s ≡ get_or spots i d) → is_up_to column north s ≡ true
    → ((k : ℕ) (d : Spot) → start ≤ k → k < i → is_up_to column north (get_or spots k d) ≡ true)
    → (k : ℕ) (d : Spot) → start ≤ k → k < i + 1 → is_up_to column north (get_or spots k d) ≡ true
walked_more spots column north start i s at is walked k d more less = ⊎_elim
    (λ (before_it : k < i). walked k d more before_it)
    (λ (h : i ≤ k).
    let e : i ≡ k = omega (arith, h, less) in
    subst (λ j. is_up_to column north (get_or spots j d) ≡ true) e (subst (λ x. is_up_to column north x ≡ true) (at d) is))
    (cases_lt k i)

module _ (spots : List Spot) (column south north : ℤ) (start i end : ℕ) (from : IsPlace spots column south start) (to : IsPlace spots column (north +ℤ pos 1) end)
    (low : start ≤ i) (small : i ≤ length spots) (walked : (k : ℕ) (d : Spot) → start ≤ k → k < i → is_up_to column north (get_or spots k d) ≡ true) where
  -- a walk over such spots stays before the place of the next row
  pub walked_within : i - start ≤ end - start
  walked_within = ⊎_elim
      (λ (some : start < i). ⊎_elim
      (λ (past : end < i).
      let d : Spot = record { column = pos 0; row = pos 0; x = pos 0; y = pos 0; index = 0 } in
      let k = i - 1 in
      let is = up_to_before column north _ _ (walked k d (omega (arith, some)) (omega (arith, some))) in
      let isnt = to.behind k d (omega (arith, past)) (omega (arith, some, small)) in
      absurd (true≢false (sym is ∙ isnt)))
      (λ (h : i ≤ end). omega (arith, h))
      (cases_lt end i))
      (λ (none : i ≤ start). omega (arith, none))
      (cases_lt start i)

  -- it reaches that place where it stops
  pub walked_to : (length spots ≤ i) ⊎ ((d : Spot) → is_up_to column north (get_or spots i d) ≡ false) → i - start ≡ end - start
  walked_to stops = ⊎_elim
      (λ (less : i < end). absurd (before_stop stops less))
      (λ (h : end ≤ i). omega (arith, h, walked_within))
      (cases_lt i end)
    where
      before_stop : (length spots ≤ i) ⊎ ((d : Spot) → is_up_to column north (get_or spots i d) ≡ false) → i < end → ⊥
      before_stop (inl all) less = omega (arith, all, less, to.within)
      before_stop (inr stop) less =
          let d : Spot = record { column = pos 0; row = pos 0; x = pos 0; y = pos 0; index = 0 } in
          let isnt = past_behind column south north _ _ (from.behind i d low (omega (arith, less, to.within))) (stop d) in
          true≢false (sym (to.below i d less) ∙ isnt)
