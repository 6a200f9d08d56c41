-- A search by halving: what is left of the list, and of the digits of its length.
use Rattle.std.proofs.Common.{◌≡◌, ℕ, ◌+◌, ◌/◌, ◌^◌, ◌<◌, ◌≤◌, ℤ, List, length, get_or, true, false, sym, subst, ⊎_elim, arith}
use Rattle.std.proofs.lemmas.Bool.{cases_lt}
use Rattle.std.specs.Int.Digits.{digits_of}
use Rattle.std.proofs.lemmas.Int.Digits.{number_lt, all_below_base_digits_of, number_digits_of, length-digits_of-le, length-digits_of_step}
use Rattle.brace_grid.specs.declared.cells.Cell.{Cell}
use Rattle.brace_grid.specs.Grids.{digits}
use Rattle.brace_grid.specs.inner.Layout.{before, CellsRise}
use Rattle.brace_grid.proofs.Orders.{before_trans, behind_trans}

-- what a halving search knows: cells below `low` come before cell (column, row), those from `high`
-- on do not
pub record IsHalved (cells : List Cell) (column row : ℤ) (low high : ℕ) : Type 0 where
  pub ordered : low ≤ high
  pub within : high ≤ length cells
  pub below : (k : ℕ) (d : Cell) → k < low
      → before (get_or cells k d).column (get_or cells k d).row column row ≡ true
  pub behind : (k : ℕ) (d : Cell) → high ≤ k → k < length cells
      → before (get_or cells k d).column (get_or cells k d).row column row ≡ false

-- a number is below 2 to the number of its digits
below_power : (n : ℕ) → n < 2 ^ digits n
below_power n =
    subst (λ m. m < 2 ^ digits n) (number_digits_of 2 n (omega arith)) (number_lt 2 (digits_of 2 n) (all_below_base_digits_of 2 n (omega arith)))

pub digits_le : (m n : ℕ) → m ≤ n → digits m ≤ digits n
digits_le m n h = length-digits_of-le 2 (digits n) m (omega arith) (omega (arith, h, below_power n))

pub digits_half : (m n : ℕ) → 0 < n → m ≤ n / 2 → digits m + 1 ≤ digits n
digits_half m n some h = omega (arith, digits_le m (n / 2) h, length-digits_of_step 2 n (omega arith) some)

-- a cell that comes before the one searched for: so do all before it
pub halve_up : (cells : List Cell) (column row : ℤ) (low middle high : ℕ) (cell : Cell) → CellsRise cells → IsHalved cells column row low high
    → low ≤ middle → middle < high → ((d : Cell) → cell ≡ get_or cells middle d) → before cell.column cell.row column row ≡ true
    → IsHalved cells column row (middle + 1) high
halve_up cells column row low middle high cell rise halved h g is here = record {
  ordered = omega arith;
  within = halved.within;
  below = λ k d less. ⊎_elim
      (λ (lower : k < middle). before_trans _ _ cell.column cell.row column row (subst (λ c. before (get_or cells k d).column (get_or cells k d).row c.column c.row ≡ true) (sym (is d)) (rise k middle d lower (omega (arith, g, halved.within)))) here)
      (λ (same : middle ≤ k). let e : k ≡ middle = omega (arith, same, less) in subst (λ i. before (get_or cells i d).column (get_or cells i d).row column row ≡ true) (sym e) (subst (λ c. before c.column c.row column row ≡ true) (is d) here))
      (cases_lt k middle);
  behind = halved.behind;
}

-- a cell that does not come before the one searched for: nor does any behind it
pub halve_down : (cells : List Cell) (column row : ℤ) (low middle high : ℕ) (cell : Cell) → CellsRise cells → IsHalved cells column row low high
    → low ≤ middle → middle < high → ((d : Cell) → cell ≡ get_or cells middle d) → before cell.column cell.row column row ≡ false
    → IsHalved cells column row low middle
halve_down cells column row low middle high cell rise halved h g is here = record {
  ordered = h;
  within = omega (arith, g, halved.within);
  below = halved.below;
  behind = λ k d more small. ⊎_elim
      (λ (higher : middle < k). behind_trans cell.column cell.row _ _ column row (subst (λ c. before c.column c.row (get_or cells k d).column (get_or cells k d).row ≡ true) (sym (is d)) (rise middle k d higher small)) here)
      (λ (same : k ≤ middle). let e : k ≡ middle = omega (arith, same, more) in subst (λ i. before (get_or cells i d).column (get_or cells i d).row column row ≡ false) (sym e) (subst (λ c. before c.column c.row column row ≡ false) (is d) here))
      (cases_lt middle k);
}
