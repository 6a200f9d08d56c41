use Rattle.std.proofs.Common.{◌≡◌, ◌<◌, ℕ, length, get_or, slice_get, Some}
use Rattle.brace_model.specs.declared.program.Program.{Program}
use Rattle.brace_model.specs.declared.world.Agent.{Agent}
use Rattle.brace_code.specs.declared.lane.Lane.{Lane}
use Rattle.brace_fold.specs.Rows.{rows_in}
use Rattle.brace_fold.specs.inner.Rulings.{agent_at, child_of}
use Rattle.brace_fold.proofs.surviving.children_in.Given as goal

abbrev pub invariant-loop-k : goal.invariant-loop-k
invariant-loop-k l = record {
  long : length l.born.items ≡ l.k;
  each : (program : Program) → slice_get program.classes l.number ≡ Some l.own → (j : ℕ)
      (a d : Agent) (x : Lane) → j < l.k
      → get_or l.born.items j a ≡ child_of l.class l.gifts j
      (agent_at (rows_in program l.columns) d (get_or l.lanes j x));
}
