use Rattle.std.proofs.Common.{◌≡◌, ◌<◌, ◌≤◌, ◌+◌, ◌-◌, ℕ, List, length, get_or, true}
use Rattle.std.specs.Vec.{vec_len, vec_capacity}
use Rattle.std.specs.Prelude.{is_some}
use Rattle.brace_model.specs.declared.world.Agent.{Agent}
use Rattle.brace_model.specs.World.{class_of}
use Rattle.brace_fold.specs.declared.cells.Spot.{Spot}
use Rattle.brace_fold.specs.Rows.{AreColumns}
use Rattle.brace_fold.specs.inner.Sights.{spot_of}
use Rattle.brace_fold.proofs.spotting.spots_in.Given as goal

abbrev pub invariant-loop-i : goal.invariant-loop-i
invariant-loop-i l = record {
  long : length l.spots.items ≡ l.i;
  room : vec_len l.spots + (l.count - l.i) ≤ vec_capacity l.spots;
  known : (agents : List Agent) → AreColumns agents l.columns → (k : ℕ) (a : Agent) → k < l.i
      → is_some (class_of l.program (get_or agents k a)) ≡ true;
  each : (agents : List Agent) → AreColumns agents l.columns → (k : ℕ) (s : Spot) (a : Agent)
      → k < l.i → get_or l.spots.items k s ≡ spot_of l.program l.side k (get_or agents k a);
}
