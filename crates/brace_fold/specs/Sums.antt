-- What was said to agents, row by row.
use Rattle.std.specs.Prelude.{◌≡◌, ◌==◌, if◌then◌else◌, ℕ, ℤ, ◌+◌, ◌<◌, pos, List, [], length, slice_get, slice_index_or, Some}
use Rattle.brace_model.specs.declared.program.Comb.{Comb}
use Rattle.brace_model.specs.declared.program.Effect.{Effect}
use Rattle.brace_model.specs.declared.program.Program.{Program}
use Rattle.brace_model.specs.declared.program.Value.{Value}
use Rattle.brace_model.specs.declared.world.Agent.{Agent}
use Rattle.brace_model.specs.World.{class_of}
use Rattle.brace_model.specs.Query.{Saying}
use Rattle.brace_model.specs.Total.{said_to, total_of}
use Rattle.brace_comb.specs.Totals.{merged}
use Rattle.brace_eval.specs.Heard.{effects_in}
use Rattle.brace_fold.specs.declared.table.Sum.{Sum}
use Rattle.brace_fold.specs.declared.table.Table.{Table}

-- a sum of no value
abbrev pub no_sum : Sum
no_sum = record { number = pos 0; count = 0 }

-- a sum and the total of so many values more
abbrev pub summed : Comb → Sum → ℤ → ℕ → Sum
summed comb sum number count = record {
  number = if sum.count == 0 then number else merged comb sum.number number;
  count = sum.count + count;
}

-- the sums of an effect, row by row
abbrev pub sums_of : Table → ℕ → List Sum
sums_of table effect = slice_index_or table.sums.items effect []

-- the sum of an effect of a row
abbrev pub sum_at : Table → ℕ → ℕ → Sum
sum_at table effect row = slice_index_or (sums_of table effect) row no_sum

-- the total of so many values more was joined to the sum of an effect of a row
pub record IsJoined (comb : Comb) (effect row : ℕ) (number : ℤ) (count : ℕ) (before after : Table)
    : Type 0 where
  pub rows : after.rows ≡ before.rows
  pub sum : sum_at after effect row ≡ summed comb (sum_at before effect row) number count
  pub others : (f r : ℕ) → (f ≡ effect → r ≡ row → ⊥) → sum_at after f r ≡ sum_at before f r

-- the total whose sum this is; of no value, the one that is given
abbrev pub total_in : ℤ → Sum → ℤ
total_in none sum = if sum.count == 0 then none else sum.number

-- a sum joins these values
pub record IsSum (comb : Comb) (values : List Value) (sum : Sum) : Type 0 where
  pub many : sum.count ≡ length values
  pub number : 0 < sum.count → sum.number ≡ total_of comb values

-- these values were said to the agents of rows
pub record AreSummed (program : Program) (rows : List Agent) (said : List Saying) (table : Table)
    : Type 0 where
  pub long : table.rows ≡ length rows
  pub sums : (row effect : ℕ) (a : Agent) (e : Effect) → slice_get rows row ≡ Some a
      → slice_get (effects_in (class_of program a)) effect ≡ Some e
      → IsSum e.comb (said_to a.id effect said) (sum_at table effect row)
