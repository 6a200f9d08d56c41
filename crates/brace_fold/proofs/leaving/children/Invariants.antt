use Rattle.std.proofs.Common.{◌≡◌, ◌<◌, ℕ, length, slice_index_or}
use Rattle.brace_model.specs.declared.world.Agent.{Agent}
use Rattle.brace_code.specs.declared.lane.Lane.{Lane}
use Rattle.brace_fold.specs.inner.Rulings.{agent_at, child_of}
use Rattle.brace_fold.proofs.leaving.children.Given as goal

abbrev pub invariant-loop-k : goal.invariant-loop-k
invariant-loop-k l = record {
  long : length l.born.items ≡ l.k;
  each : (j : ℕ) (a d : Agent) (x : Lane) → j < l.k
      → slice_index_or l.born.items j a ≡ child_of l.class l.gifts j (agent_at l.agents d (slice_index_or l.lanes j x));
}
