-- What is kept of the agents of the records that are read.
use Rattle.std.specs.Prelude.{◌≡◌, ℕ, nat_eq, false}
use Rattle.std.specs.List.{list_any, IsDistinct}
use Rattle.std.specs.Ordering.{nat_cmp}
use Rattle.std.specs.BTreeSet as tree
use Rattle.brace_model.specs.World.{ids}
use Rattle.brace_model.specs.Step.{count_values}
use Rattle.brace_rows.specs.declared.register.Register.{Register}
use Rattle.brace_rows.specs.AgentFile.{are_too_many}

-- agents of different ids within the limits, the number of their values, and the set of their ids
pub record IsRegister (register : Register) : Type 0 where
  pub counted : register.values ≡ count_values register.agents.items
  pub known : (q : ℕ) → tree.contains nat_cmp register.ids q
      ≡ list_any (nat_eq q) (ids register.agents.items)
  pub differ : IsDistinct nat_eq (ids register.agents.items)
  pub few : are_too_many register.agents.items ≡ false
