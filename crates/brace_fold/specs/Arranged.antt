-- Agents in the order of cells, in which queries are asked.
use Rattle.std.specs.Prelude.{List, length, nat_eq, IsTrue}
use Rattle.std.specs.List.{IsDistinct, list_all, range_with_len}
use Rattle.std.specs.List.Sorted.{IsPermutation}
use Rattle.brace_model.specs.declared.program.Program.{Program}
use Rattle.brace_model.specs.declared.world.Agent.{Agent}
use Rattle.brace_model.specs.Lawful.{is_lawful_agent}
use Rattle.brace_model.specs.World.{ids}
use Rattle.brace_fold.specs.declared.arranged.Arranged.{Arranged}
use Rattle.brace_fold.specs.Asked.{by_row}
use Rattle.brace_fold.specs.Rows.{AreMoved}
use Rattle.brace_fold.specs.inner.Sights.{AreCells}

-- the agents of rows, place by place
abbrev pub in_places : List Agent → Arranged → List Agent
in_places agents arranged = by_row agents arranged.order.items

-- lawful agents of a program, no two with one id, stand in the order of cells
pub record AreArranged (program : Program) (agents : List Agent) (arranged : Arranged)
    : Type 0 where
  pub lawful : IsTrue (list_all (is_lawful_agent program) agents)
  pub apart : IsDistinct nat_eq (ids agents)
  pub places : IsPermutation (range_with_len 0 (length agents)) arranged.order.items
  pub moved : AreMoved (in_places agents arranged) arranged.rows
  pub cells : AreCells program (in_places agents arranged) arranged.cells
