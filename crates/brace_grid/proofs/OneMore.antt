-- Cells of spots, one spot more.
use Rattle.std.proofs.Common.{◌≡◌, ◌∙◌, ℕ, zero, suc, ◌+◌, ◌-◌, ◌<◌, ◌≤◌, ℤ, Bool, true, false, cond, ◌&&◌, ◌||◌, List, [], ◌∷◌, ◌++◌, length, take, get_or, slice_get, refl, sym, ap, ap₂, subst, arith, ⊎_elim}
use Rattle.std.specs.Ordering.{int_eq}
use Rattle.std.specs.List.{list_any}
use Rattle.std.proofs.lemmas.Int.{ints}
use Rattle.std.proofs.lemmas.Bool.{cases_lt, cases_Bool}
use Rattle.std.proofs.lemmas.List.Folds.{list_any-append, list_any_at}
use Rattle.std.proofs.lemmas.List.{take_more, get_or-take, length-take-le, get_or_default, length_push, get_or_push, get_or_append_left}
use Rattle.brace_grid.specs.declared.cells.Spot.{Spot}
use Rattle.brace_grid.specs.declared.cells.Cell.{Cell}
use Rattle.brace_grid.specs.inner.Layout.{before, first_of, SpotsRise, AreCellsOf, IsIn, is_in, is_in_last, with_spot}
use Rattle.brace_grid.proofs.Orders.{before_trans, before_next}
use Rattle.brace_grid.proofs.Places.{first_of_past, no_cell}

-- where a cell's spots begin does not hang on how many spots there are
first_of_any : (spots more : List Spot) (cells : List Cell) (k : ℕ) → k < length cells → first_of more cells k ≡ first_of spots cells k
first_of_any spots more [] k h = absurd (omega (arith, h))
first_of_any spots more (c ∷ cells) zero h = refl
first_of_any spots more (c ∷ cells) (suc k) h = first_of_any spots more cells k (omega (arith, h))

first_of_left : (spots : List Spot) (cells : List Cell) (c : Cell) (k : ℕ) → k < length cells → first_of spots (cells ++ c ∷ []) k ≡ first_of spots cells k
first_of_left spots [] c k h = absurd (omega (arith, h))
first_of_left spots (x ∷ cells) c zero h = refl
first_of_left spots (x ∷ cells) c (suc k) h = first_of_left spots cells c k (omega (arith, h))

first_of_new : (spots : List Spot) (cells : List Cell) (c : Cell) → first_of spots (cells ++ c ∷ []) (length cells) ≡ c.first
first_of_new spots [] c = refl
first_of_new spots (x ∷ cells) c = first_of_new spots cells c

both : (a b c d : ℤ) → (int_eq c a && int_eq d b) ≡ true → (a ≡ c) × (b ≡ d)
both a b c d h = (grind (arith, ints, h), grind (arith, ints, h))

-- whether a spot is in a cell, by the cell's place
in_at : (cells : List Cell) (s : Spot) (k : ℕ) (e : Cell) → k < length cells
    → is_in s (slice_get cells k) ≡ (int_eq (get_or cells k e).column s.column && int_eq (get_or cells k e).row s.row)
in_at [] s k e small = absurd (omega (arith, small))
in_at (c ∷ cells) s zero e small = refl
in_at (c ∷ cells) s (suc k) e small = in_at cells s k e (omega (arith, small))

last_is : (cells : List Cell) (s : Spot) (e : Cell) → is_in_last cells s ≡ true → IsIn s (get_or cells (length cells - 1) e) × (0 < length cells)
last_is [] s e h = absurd (cc)
last_is (c ∷ cells) s e h = (both _ _ _ _ (sym (in_at (c ∷ cells) s (length (c ∷ cells) - 1) e (omega arith)) ∙ h), omega arith)

abbrev is_at : ℤ → ℤ → Spot → Bool
is_at column row x = int_eq column x.column && int_eq row x.row

abbrev is_cell : ℤ → ℤ → Cell → Bool
is_cell column row c = int_eq column c.column && int_eq row c.row

again : (p q : Bool) → (q ≡ true → p ≡ true) → (p || (q || false)) ≡ p
again true q h = refl
again false true h = sym (h refl)
again false false h = refl

-- the cells that are known, one spot more
known_kept : (spots : List Spot) (cells : List Cell) (s : Spot) → is_in_last cells s ≡ true → (column row : ℤ)
    → list_any (is_cell column row) cells ≡ list_any (is_at column row) spots
    → list_any (is_cell column row) cells ≡ list_any (is_at column row) (spots ++ s ∷ [])
known_kept spots cells s same column row known =
    let (is, some) = last_is cells s no_cell same in
    let here : is_at column row s ≡ true → list_any (is_at column row) spots ≡ true = λ e.
    sym known ∙ list_any_at (is_cell column row) cells (length cells - 1) no_cell (omega (arith, some))
    (ap₂ (λ c r. int_eq column c && int_eq row r) (sym is.0) (sym is.1) ∙ e) in
    known ∙ sym (list_any-append (is_at column row) spots (s ∷ []) ∙ again (list_any (is_at column row) spots) (is_at column row s) here)

-- a spot that is in the last cell
module _ (spots : List Spot) (cells : List Cell) (s : Spot) (theirs : AreCellsOf spots cells) (same : is_in_last cells s ≡ true) where
  abbrev more : List Spot
  more = spots ++ s ∷ []

  kept_first : (k : ℕ) → k < length cells → first_of more cells k ≡ first_of spots cells k
  kept_first k h = first_of_any spots more cells k h

  kept_at : (n : ℕ) (d : Spot) → n < length spots → get_or more n d ≡ get_or spots n d
  kept_at n d h = get_or_append_left spots (s ∷ []) d n h

  kept_last : (k : ℕ) (d : Spot) (e : Cell) → k < length cells → IsIn (get_or more (first_of more cells (k + 1) - 1) d) (get_or cells k e)
  kept_last k d e h =
      ⊎_elim
      (λ (less : k + 1 < length cells).
      let f = kept_first (k + 1) less in
      let w = theirs.first_within (k + 1) less in
      subst (λ n. IsIn (get_or more (n - 1) d) (get_or cells k e)) (sym f)
      (subst (λ x. IsIn x (get_or cells k e)) (sym (kept_at (first_of spots cells (k + 1) - 1) d (omega (arith, w)))) (theirs.last_in k d e h)))
      (λ (last : length cells ≤ k + 1).
      let f : first_of more cells (k + 1) - 1 ≡ length spots = omega (arith, first_of_past more cells (k + 1) last, length_push spots s) in
      let k_is : length cells - 1 ≡ k = omega (arith, last, h) in
      subst (λ n. IsIn (get_or more n d) (get_or cells k e)) (sym f)
      (subst (λ x. IsIn x (get_or cells k e)) (sym (get_or_push spots s d (length spots) refl))
      (subst (λ n. IsIn s (get_or cells n e)) k_is (last_is cells s e same).0)))
      (cases_lt (k + 1) (length cells))

  pub cells_kept : AreCellsOf more cells
  cells_kept = record {
    rise = theirs.rise;
    begin = kept_first 0 (last_is cells s no_cell same).1 ∙ theirs.begin;
    first_within = λ k h. omega (arith, kept_first k h, theirs.first_within k h, length_push spots s);
    first_in = λ k d e h. subst (λ n. IsIn (get_or more n d) (get_or cells k e)) (sym (kept_first k h))
        (subst (λ x. IsIn x (get_or cells k e)) (sym (kept_at (first_of spots cells k) d (theirs.first_within k h))) (theirs.first_in k d e h));
    last_within = λ k h. ⊎_elim
        (λ (less : k + 1 < length cells). omega (arith, kept_first (k + 1) less, theirs.last_within k h))
        (λ (last : length cells ≤ k + 1). omega (arith, first_of_past more cells (k + 1) last, length_push spots s))
        (cases_lt (k + 1) (length cells));
    last_in = kept_last;
    known = λ column row. known_kept spots cells s same column row (theirs.known column row);
  }

-- a spot that is in no cell yet, and not before the last spot
module _ (spots : List Spot) (cells : List Cell) (s : Spot) (theirs : AreCellsOf spots cells) (other : is_in_last cells s ≡ false)
    (rises : (d : Spot) → 0 < length spots → before s.column s.row (get_or spots (length spots - 1) d).column (get_or spots (length spots - 1) d).row ≡ false) where
  abbrev longer : List Spot
  longer = spots ++ s ∷ []

  abbrev cell : Cell
  cell = record { column = s.column; row = s.row; first = length spots }

  abbrev wider : List Cell
  wider = cells ++ cell ∷ []

  new_first : (k : ℕ) → k < length cells → first_of longer wider k ≡ first_of spots cells k
  new_first k h = first_of_left longer cells cell k h ∙ first_of_any spots longer cells k h

  -- where the spots of the cell behind an old one begin
  new_next : (k : ℕ) → k < length cells → first_of longer wider (k + 1) ≡ first_of spots cells (k + 1)
  new_next k h =
      ⊎_elim
      (λ (less : k + 1 < length cells). new_first (k + 1) less)
      (λ (last : length cells ≤ k + 1).
      let e : length cells ≡ k + 1 = omega (arith, last, h) in
      subst (λ n. first_of longer wider n ≡ first_of spots cells n) e (first_of_new longer cells cell ∙ sym (first_of_past spots cells (length cells) (omega arith))))
      (cases_lt (k + 1) (length cells))

  next_within : (k : ℕ) → k < length cells → first_of spots cells (k + 1) ≤ length spots
  next_within k h =
      ⊎_elim
      (λ (less : k + 1 < length cells). omega (arith, theirs.first_within (k + 1) less))
      (λ (last : length cells ≤ k + 1). omega (arith, first_of_past spots cells (k + 1) last))
      (cases_lt (k + 1) (length cells))

  old_cell : (k : ℕ) (e : Cell) → k < length cells → get_or wider k e ≡ get_or cells k e
  old_cell k e h = get_or_append_left cells (cell ∷ []) e k h

  new_cell : (k : ℕ) (e : Cell) → length cells ≤ k → k < length wider → get_or wider k e ≡ cell
  new_cell k e h g = let is : length cells ≡ k = omega (arith, h, g, length_push cells cell) in get_or_push cells cell e k is

  last_new : (k : ℕ) → length cells ≤ k → k < length wider → k ≡ length cells
  last_new k h g = omega (arith, h, g, length_push cells cell)

  old_spot : (n : ℕ) (d : Spot) → n < length spots → get_or longer n d ≡ get_or spots n d
  old_spot n d h = get_or_append_left spots (s ∷ []) d n h

  -- the last old cell is before the new one
  last_before : (e : Cell) → 0 < length cells → before (get_or cells (length cells - 1) e).column (get_or cells (length cells - 1) e).row s.column s.row ≡ true
  last_before e some =
      let k = length cells - 1 in
      let next : k + 1 ≡ length cells = omega (arith, some) in
      let all : first_of spots cells (k + 1) ≡ length spots = first_of_past spots cells (k + 1) (omega (arith, next)) in
      let in_k : IsIn (get_or spots (length spots - 1) s) (get_or cells k e) =
      subst (λ n. IsIn (get_or spots (n - 1) s) (get_or cells k e)) all (theirs.last_in k s e (omega (arith, some))) in
      let h : before s.column s.row (get_or cells k e).column (get_or cells k e).row ≡ false =
      sym (ap₂ (before s.column s.row) in_k.0 in_k.1) ∙ rises s (omega (arith, all, theirs.last_within k (omega (arith, some)))) in
      before_next _ _ s.column s.row h (sym (in_at cells s k e (omega (arith, some))) ∙ other)

  rise_new : (i : ℕ) (e : Cell) → i < length cells → before (get_or cells i e).column (get_or cells i e).row s.column s.row ≡ true
  rise_new i e h =
      ⊎_elim
      (λ (less : i < length cells - 1).
      let k = length cells - 1 in
      before_trans _ _ (get_or cells k e).column (get_or cells k e).row _ _ (theirs.rise i k e less (omega (arith, h))) (last_before e (omega (arith, h))))
      (λ (last : length cells - 1 ≤ i).
      let is : length cells - 1 ≡ i = omega (arith, last, h) in
      subst (λ n. before (get_or cells n e).column (get_or cells n e).row s.column s.row ≡ true) is (last_before e (omega (arith, h))))
      (cases_lt i (length cells - 1))

  first_new : (k : ℕ) → length cells ≤ k → k < length wider → first_of longer wider k ≡ length spots
  first_new k new h = subst (λ n. first_of longer wider n ≡ length spots) (sym (last_new k new h)) (first_of_new longer cells cell)

  past_new : (k : ℕ) → length cells ≤ k → k < length wider → first_of longer wider (k + 1) ≡ length longer
  past_new k new h = first_of_past longer wider (k + 1) (omega (arith, last_new k new h, length_push cells cell))

  in_new : (k : ℕ) (d : Spot) (e : Cell) → length cells ≤ k → k < length wider → IsIn (get_or longer (length spots) d) (get_or wider k e)
  in_new k d e new h = subst (λ c. IsIn (get_or longer (length spots) d) c) (sym (new_cell k e new h))
      (subst (λ x. IsIn x cell) (sym (get_or_push spots s d (length spots) refl)) (refl, refl))

  pub cells_new : AreCellsOf longer wider
  cells_new = record {
    rise = λ i j d less small. ⊎_elim
        (λ (old : j < length cells).
        subst (λ x. before x.column x.row (get_or wider j d).column (get_or wider j d).row ≡ true) (sym (old_cell i d (omega (arith, less, old))))
        (subst (λ x. before (get_or cells i d).column (get_or cells i d).row x.column x.row ≡ true) (sym (old_cell j d old)) (theirs.rise i j d less old)))
        (λ (new : length cells ≤ j).
        let i_old : i < length cells = omega (arith, less, last_new j new small) in
        subst (λ x. before x.column x.row (get_or wider j d).column (get_or wider j d).row ≡ true) (sym (old_cell i d i_old))
        (subst (λ x. before (get_or cells i d).column (get_or cells i d).row x.column x.row ≡ true) (sym (new_cell j d new small)) (rise_new i d i_old)))
        (cases_lt j (length cells));
    begin = ⊎_elim
        (λ (some : 0 < length cells). new_first 0 some ∙ theirs.begin)
        (λ (none : length cells ≤ 0).
        let z : length cells ≡ 0 = omega (arith, none) in
        subst (λ n. first_of longer wider n ≡ length spots) z (first_of_new longer cells cell) ∙ sym (first_of_past spots cells 0 none) ∙ theirs.begin)
        (cases_lt 0 (length cells));
    first_within = λ k h. ⊎_elim
        (λ (old : k < length cells). omega (arith, new_first k old, theirs.first_within k old, length_push spots s))
        (λ (new : length cells ≤ k). omega (arith, first_new k new h, length_push spots s))
        (cases_lt k (length cells));
    first_in = λ k d e h. ⊎_elim
        (λ (old : k < length cells).
        subst (λ n. IsIn (get_or longer n d) (get_or wider k e)) (sym (new_first k old))
        (subst (λ x. IsIn x (get_or wider k e)) (sym (old_spot (first_of spots cells k) d (theirs.first_within k old)))
        (subst (λ c. IsIn (get_or spots (first_of spots cells k) d) c) (sym (old_cell k e old)) (theirs.first_in k d e old))))
        (λ (new : length cells ≤ k).
        subst (λ n. IsIn (get_or longer n d) (get_or wider k e)) (sym (first_new k new h)) (in_new k d e new h))
        (cases_lt k (length cells));
    last_within = λ k h. ⊎_elim
        (λ (old : k < length cells). omega (arith, new_next k old, theirs.last_within k old))
        (λ (new : length cells ≤ k). omega (arith, past_new k new h, length_push spots s))
        (cases_lt k (length cells));
    last_in = λ k d e h. ⊎_elim
        (λ (old : k < length cells).
        let n = first_of spots cells (k + 1) - 1 in
        subst (λ m. IsIn (get_or longer (m - 1) d) (get_or wider k e)) (sym (new_next k old))
        (subst (λ x. IsIn x (get_or wider k e)) (sym (old_spot n d (omega (arith, next_within k old, theirs.last_within k old))))
        (subst (λ c. IsIn (get_or spots n d) c) (sym (old_cell k e old)) (theirs.last_in k d e old))))
        (λ (new : length cells ≤ k).
        let m : length spots ≡ first_of longer wider (k + 1) - 1 = omega (arith, past_new k new h, length_push spots s) in
        subst (λ n. IsIn (get_or longer n d) (get_or wider k e)) m (in_new k d e new h))
        (cases_lt k (length cells));
    known = λ column row.
        list_any-append (is_cell column row) cells (cell ∷ []) ∙ ap (λ b. b || (is_at column row s || false)) (theirs.known column row)
        ∙ sym (list_any-append (is_at column row) spots (s ∷ []));
  }

-- one spot more
pub cells_more : (spots : List Spot) (cells : List Cell) (s : Spot) (n : ℕ) → n ≡ length spots → AreCellsOf spots cells
    → ((d : Spot) → 0 < length spots → before s.column s.row (get_or spots (length spots - 1) d).column (get_or spots (length spots - 1) d).row ≡ false)
    → AreCellsOf (spots ++ s ∷ []) (with_spot cells s n)
cells_more spots cells s n e theirs rises = subst (λ m. AreCellsOf (spots ++ s ∷ []) (with_spot cells s m)) (sym e)
    (⊎_elim
    (λ (same : is_in_last cells s ≡ true). subst (λ b. AreCellsOf (spots ++ s ∷ []) (cond b cells (wide (length spots)))) (sym same) (cells_kept spots cells s theirs same))
    (λ (other : is_in_last cells s ≡ false). subst (λ b. AreCellsOf (spots ++ s ∷ []) (cond b cells (wide (length spots)))) (sym other) (cells_new spots cells s theirs other rises))
    (cases_Bool (is_in_last cells s)))
  where
    wide : ℕ → List Cell
    wide n = cells ++ record { column = s.column; row = s.row; first = n } ∷ []

pub cells_none : AreCellsOf [] []
cells_none = record {
  rise = λ i j d less small. absurd (omega (arith, small));
  begin = refl;
  first_within = λ k h. absurd (omega (arith, h));
  first_in = λ k d e h. absurd (omega (arith, h));
  last_within = λ k h. absurd (omega (arith, h));
  last_in = λ k d e h. absurd (omega (arith, h));
  known = λ column row. refl;
}

-- a loop's step over spots that rise
pub cells_step : (spots : List Spot) (cells : List Cell) (i : ℕ) (d : Spot) → SpotsRise spots → i < length spots → AreCellsOf (take i spots) cells
    → AreCellsOf (take (i + 1) spots) (with_spot cells (get_or spots i d) i)
cells_step spots cells i d rise small theirs =
    let s = get_or spots i d in
    let long : length (take i spots) ≡ i = length-take-le i spots (omega (arith, small)) in
    subst (λ l. AreCellsOf l (with_spot cells s i)) (sym (take_more spots i d small))
    (cells_more (take i spots) cells s i (sym long) theirs (λ e some.
    let last = length (take i spots) - 1 in
    let read : get_or (take i spots) last e ≡ get_or spots last d = get_or-take i spots last e (omega (arith, long, some)) ∙ get_or_default spots last e d (omega (arith, long, small)) in
    subst (λ x. before s.column s.row x.column x.row ≡ false) (sym read) (rise last i d (omega (arith, long)) small)))
