use Rattle.std.proofs.Common.{◌≡◌, All, ℕ, ℤ, pos, List, Some, get_or, length, map, slice_get}
use Rattle.brace_model.specs.declared.program.Program.{Program}
use Rattle.brace_model.specs.declared.world.Agent.{Agent}
use Rattle.brace_model.specs.Query.{Saying}
use Rattle.brace_model.specs.World.{class_of}
use Rattle.brace_eval.specs.Heard.{row_of}
use Rattle.brace_fold.specs.Asked.{by_row}
use Rattle.brace_fold.specs.Sums.{AreSummed}
use Rattle.brace_fold.proofs.telling.told_columns.Given as goal

abbrev pub invariant-loop-k : goal.invariant-loop-k
invariant-loop-k l = record {
  long : length l.columns.items ≡ l.k;
  each : (program : Program) (agents : List Agent) (more : List Saying)
      → AreSummed program agents more l.said
      → All (λ (a : Agent). class_of program a ≡ Some l.own) (by_row agents l.rows)
      → (i : ℕ) (column : List ℤ) → slice_get l.columns.items i ≡ Some column
      → column ≡ map (λ (a : Agent). get_or (row_of program more a) i (pos 0))
      (by_row agents l.rows);
}
