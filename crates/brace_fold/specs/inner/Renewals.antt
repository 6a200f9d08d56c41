-- What agents that are renewed leave, all together. Only the crate's own functions cite this.
use Rattle.std.specs.Prelude.{◌≡◌, ◌≤ℤ◌, ℕ, ℤ, pos, List, [], ◌∷◌, ◌++◌, map, take, drop, Ok}
use Rattle.brace_model.specs.declared.program.Program.{Program}
use Rattle.brace_model.specs.declared.world.Agent.{Agent}
use Rattle.brace_model.specs.Next.{Next}
use Rattle.brace_model.specs.Step.{living, children}
use Rattle.brace_model.specs.Query.{Saying}
use Rattle.brace_eval.specs.Heard.{row_of}
use Rattle.brace_fold.specs.declared.columns.Columns.{Columns}
use Rattle.brace_fold.specs.declared.renewing.Ground.{Ground}
use Rattle.brace_fold.specs.declared.renewal.Renewed.{Renewed}
use Rattle.brace_fold.specs.declared.table.Table.{Table}
use Rattle.brace_fold.specs.declared.renewing.Batch.{Batch}
use Rattle.brace_fold.specs.Asked.{by_row}
use Rattle.brace_fold.specs.Rows.{AreMoved, rows_in}
use Rattle.brace_fold.specs.Sums.{AreSummed}
use Rattle.brace_fold.specs.Becoming.{becomes_by}
use Rattle.brace_fold.specs.inner.Rulings.{living_from}

-- the reach of a batch's class is no negative number
abbrev pub HasReach : Batch → Type 0
HasReach batch = pos 0 ≤ℤ batch.class.now.reach

-- those that live on, of the agents of a batch
abbrev pub left_by : Batch → List Agent → List Agent
left_by batch agents = living_from batch.class.now batch.out 0 agents

-- those that live on, of the agents of some batches
abbrev pub living_in : List Batch → List Agent → List Agent
living_in [] agents = []
living_in (batch ∷ batches) agents =
    left_by batch (take batch.count agents) ++ living_in batches (drop batch.count agents)

-- the updates of some agents fault nowhere, those that live on are left, and the children are added
pub record Renews (program : Program) (seed tick : ℕ) (totals : Agent → List ℤ)
    (agents left old new : List Agent) : Type 0 where
  pub nexts : List Next
  pub quiet : map (becomes_by program seed tick totals) agents ≡ map Ok nexts
  pub lives : left ≡ living nexts
  pub births : new ≡ old ++ children nexts

-- some agents are renewed: those that live on and the children are added
pub record LeavesSome (program : Program) (seed tick : ℕ) (said : List Saying)
    (agents : List Agent) (old new : Renewed) : Type 0 where
  pub left : List Agent
  pub renews : Renews program seed tick (row_of program said) agents left old.born.items
      new.born.items
  pub kept : (before : List Agent) → AreMoved before old.left → AreMoved (before ++ left) new.left

-- the same of the agents of some rows of columns, by all that was said to them
abbrev pub LeavesRows : Ground → Table → Columns → List ℕ → Renewed → Renewed → Type 0
LeavesRows base heard columns rows old new =
    let program = base.plans.now in
    (said : List Saying) → AreSummed program (rows_in program columns) said heard
    → LeavesSome program base.seed base.tick said (by_row (rows_in program columns) rows)
    old new
