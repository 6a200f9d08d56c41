-- Values said in another order, and what a table has where more is said.
use Rattle.std.specs.Prelude.{◌≡◌, ℕ, ℤ, List, ◌++◌, fold}
use Rattle.brace_model.specs.declared.program.Comb.{Comb}
use Rattle.brace_model.specs.declared.program.Program.{Program}
use Rattle.brace_model.specs.declared.world.Agent.{Agent}
use Rattle.brace_model.specs.Query.{Saying}
use Rattle.brace_model.specs.Total.{joined, said_to}
use Rattle.brace_fold.specs.Sums.{AreSummed}
use Rattle.brace_fold.specs.declared.table.Table.{Table}

-- joined to any number, both lists of sayings come to one total of each effect
pub record Alike (xs ys : List Saying) : Type 0 where
  pub each : (comb : Comb) (start : ℤ) (id field : ℕ)
      → fold (joined comb) start (said_to id field xs)
      ≡ fold (joined comb) start (said_to id field ys)

-- whatever was said before, these values more were said to the agents of rows
pub record Hears (program : Program) (rows : List Agent) (more : List Saying)
    (before after : Table) : Type 0 where
  pub each : (said : List Saying) → AreSummed program rows said before
      → AreSummed program rows (said ++ more) after
