-- What a block holds, column by column.
use Rattle.std.proofs.Common.{◌≡◌, ◌∙◌, ℕ, ◌+◌, ◌*◌, ◌≤◌, ◌⊎◌, inl, inr, ℤ, pos, ◌+ℤ◌, ◌-ℤ◌, ◌≤ℤ◌, Bool, true, false, cond, ◌&&◌, List, refl, sym, ap, subst, arith}
use Rattle.std.specs.Ordering.{int_eq}
use Rattle.std.specs.List.{count_by}
use Rattle.std.proofs.lemmas.Int.{ints}
use Rattle.std.proofs.lemmas.List.Sums.{sum_by-le-sum_by}
use Rattle.std.proofs.Math.Nat.{add-mul, mul-le-mul_right}
use Rattle.std.proofs.lemmas.Bool.{and_right}
use Rattle.brace_num.specs.declared.kinds.Area.{Area}
use Rattle.brace_grid.specs.declared.cells.Spot.{Spot}
use Rattle.brace_grid.specs.declared.search.Block.{Block}
use Rattle.brace_grid.specs.Grids.{is_between}
use Rattle.brace_grid.specs.inner.Search.{is_spot_inside, is_in_rows, is_in_block, is_chosen}
use Rattle.brace_grid.proofs.Counts.{count_two, count_same, count_none}

-- the columns of a block before a column
abbrev pub until : Block → ℤ → Block
until block column = record block { east = column -ℤ pos 1 }

one_more : (west column c : ℤ) (rows : Bool) → west ≤ℤ column
    → cond (is_between west ((column +ℤ pos 1) -ℤ pos 1) c && rows) 1 0 ≡ cond (is_between west (column -ℤ pos 1) c && rows) 1 0 + cond (int_eq c column && rows) 1 0
one_more west column c rows h = grind (arith, ints, h)

none_yet : (west c : ℤ) (rows : Bool) → (is_between west (west -ℤ pos 1) c && rows) ≡ false
none_yet west c rows = grind (arith, ints)

all_now : (west east column c : ℤ) (rows : Bool) → (east +ℤ pos 1) ≤ℤ column → (column ≤ℤ (east +ℤ pos 1)) ⊎ (column ≡ west)
    → (is_between west (column -ℤ pos 1) c && rows) ≡ (is_between west east c && rows)
all_now west east column c rows h (inl g) = grind (arith, ints, h, g)
all_now west east column c rows h (inr g) = grind (arith, ints, h, g)

part_now : (west east column c : ℤ) (rows : Bool) → column ≤ℤ (east +ℤ pos 1)
    → cond (is_between west (column -ℤ pos 1) c && rows) 1 0 ≤ cond (is_between west east c && rows) 1 0
part_now west east column c rows h = grind (arith, ints, h)

zero_more : (west : ℤ) → west ≡ west +ℤ pos 0
zero_more west = omega (arith, ints)

west_of : (west column : ℤ) (t : ℕ) → column ≡ west +ℤ pos t → west ≤ℤ column
west_of west column t e = omega (arith, ints, e)

one_further : (west column : ℤ) (t : ℕ) → column ≡ west +ℤ pos t → column +ℤ pos 1 ≡ west +ℤ pos (t + 1)
one_further west column t e = omega (arith, ints, e)

at_most : (west east column : ℤ) (t : ℕ) → column ≡ west +ℤ pos t → column ≤ℤ east → east ≤ℤ (west +ℤ pos 2) → t + 1 ≤ 3
at_most west east column t e h n = omega (arith, ints, e, h, n)

at_end : (west east column : ℤ) (t : ℕ) → column ≡ west +ℤ pos t → (column ≤ℤ (east +ℤ pos 1)) ⊎ (column ≡ west) → east ≤ℤ (west +ℤ pos 2) → t ≤ 3
at_end west east column t e (inl h) n = omega (arith, ints, e, h, n)
at_end west east column t e (inr h) n = omega (arith, ints, e, h)

module _ (block : Block) (spots : List Spot) where
  pub block_none : (column : ℤ) → column ≡ block.west → (m : Spot → Bool) → count_by (λ s. m s && is_in_block (until block column) s) spots ≡ 0
  block_none column e m = subst (λ z. count_by (λ s. m s && is_in_block (until block z) s) spots ≡ 0) (sym e)
      (count_none _ spots (λ j d h. and_right (m _) _ (none_yet block.west _ _)))

  pub block_more : (column : ℤ) → block.west ≤ℤ column → (m : Spot → Bool)
      → count_by (λ s. m s && is_in_block (until block (column +ℤ pos 1)) s) spots
      ≡ count_by (λ s. m s && is_in_block (until block column) s) spots + count_by (λ s. m s && is_in_rows column block.south block.north s) spots
  block_more column h m =
      count_two (is_in_block (until block (column +ℤ pos 1))) (is_in_block (until block column)) (is_in_rows column block.south block.north)
      (λ s. one_more block.west column s.column (is_between block.south block.north s.row) h) m spots

  pub block_all : (column : ℤ) → (block.east +ℤ pos 1) ≤ℤ column → (column ≤ℤ (block.east +ℤ pos 1)) ⊎ (column ≡ block.west) → (m : Spot → Bool)
      → count_by (λ s. m s && is_in_block (until block column) s) spots ≡ count_by (λ s. m s && is_in_block block s) spots
  block_all column h g m =
      count_same _ _ (λ s. ap (λ b. m s && b) (all_now block.west block.east column s.column (is_between block.south block.north s.row) h g)) spots

  pub block_part : (column : ℤ) → column ≤ℤ (block.east +ℤ pos 1) → count_by (is_in_block (until block column)) spots ≤ count_by (is_in_block block) spots
  block_part column h =
      sum_by-le-sum_by _ _ spots (λ s. part_now block.west block.east column s.column (is_between block.south block.north s.row) h)

-- what is gathered from the columns of a block before a column, and the steps of that
pub record IsGathered (block : Block) (area : Area) (spots : List Spot) (each : ℕ) (old new : List ℕ) (from to : ℕ) (column : ℤ) : Type 0 where
  pub found : (q : ℕ → Bool) → count_by q new ≡ count_by q old + count_by (is_chosen (is_in_block (until block column)) area q) spots
  pub steps : (t : ℕ) × (column ≡ block.west +ℤ pos t) × (to ≤ from + (count_by (is_in_block (until block column)) spots + t * each))
  pub order : (column ≤ℤ (block.east +ℤ pos 1)) ⊎ (column ≡ block.west)

module _ (block : Block) (area : Area) (spots : List Spot) (each : ℕ) where
  pub gathered_none : (old : List ℕ) (from : ℕ) → IsGathered block area spots each old old from from block.west
  gathered_none old from = record {
    found = λ q. omega (arith, block_none block spots block.west refl (λ s. is_spot_inside area s && q s.index));
    steps = (0, zero_more block.west, omega arith);
    order = inr refl;
  }

  pub gathered_more : (old new next : List ℕ) (from to then : ℕ) (column : ℤ) → IsGathered block area spots each old new from to column → column ≤ℤ block.east
      → ((q : ℕ → Bool) → count_by q next ≡ count_by q new + count_by (is_chosen (is_in_rows column block.south block.north) area q) spots)
      → then ≤ to + (count_by (is_in_rows column block.south block.north) spots + each)
      → IsGathered block area spots each old next from then (column +ℤ pos 1)
  gathered_more old new next from to then column g less found steps =
      let (t, at, so_far) = g.steps in
      let west : block.west ≤ℤ column = west_of block.west column t at in
      record {
        found = λ q. omega (arith, found q, g.found q, block_more block spots column west (λ s. is_spot_inside area s && q s.index));
        steps = (t + 1, one_further block.west column t at, omega (arith, steps, so_far, block_more block spots column west (λ s. true), add-mul t 1 each));
        order = inl (omega (arith, ints, less));
      }

  pub gathered_stop : (old new : List ℕ) (from to then : ℕ) (column : ℤ) → IsGathered block area spots each old new from to column → column ≤ℤ block.east
      → block.east ≤ℤ (block.west +ℤ pos 2)
      → then ≤ to + (count_by (is_in_rows column block.south block.north) spots + each)
      → then ≤ from + (count_by (is_in_block block) spots + 3 * each)
  gathered_stop old new from to then column g less narrow steps =
      let (t, at, so_far) = g.steps in
      let west : block.west ≤ℤ column = west_of block.west column t at in
      let few : t + 1 ≤ 3 = at_most block.west block.east column t at less narrow in
      omega (arith, steps, so_far, block_more block spots column west (λ s. true), block_part block spots (column +ℤ pos 1) (omega (arith, ints, less)), add-mul t 1 each, mul-le-mul_right {m = t + 1} {n = 3} each few)

  pub gathered_all : (old new : List ℕ) (from to : ℕ) (column : ℤ) → IsGathered block area spots each old new from to column → (block.east +ℤ pos 1) ≤ℤ column
      → (q : ℕ → Bool) → count_by q new ≡ count_by q old + count_by (is_chosen (is_in_block block) area q) spots
  gathered_all old new from to column g past q =
      g.found q ∙ ap (λ n. count_by q old + n) (block_all block spots column past g.order (λ s. is_spot_inside area s && q s.index))

  pub gathered_steps : (old new : List ℕ) (from to : ℕ) (column : ℤ) → IsGathered block area spots each old new from to column → (block.east +ℤ pos 1) ≤ℤ column
      → block.east ≤ℤ (block.west +ℤ pos 2) → to ≤ from + (count_by (is_in_block block) spots + 3 * each)
  gathered_steps old new from to column g past narrow =
      let (t, at, so_far) = g.steps in
      let few : t ≤ 3 = at_end block.west block.east column t at g.order narrow in
      omega (arith, so_far, block_all block spots column past g.order (λ s. true), mul-le-mul_right {m = t} {n = 3} each few)
