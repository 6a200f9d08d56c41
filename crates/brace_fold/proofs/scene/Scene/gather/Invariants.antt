use Rattle.std.proofs.Common.{◌≤◌, ◌-◌, ◌≡◌, List, flat_map, length, map}
use Rattle.brace_model.specs.Value.{Scope}
use Rattle.brace_code.specs.declared.lane.Lane.{Lane}
use Rattle.brace_fold.specs.inner.Crowds.{AreOf, IsFull, Stands, deeper, lanes_inside, spread}
use Rattle.brace_fold.specs.inner.Deeds.{between, into}
use Rattle.brace_fold.specs.inner.Sights.{AreLed}
use Rattle.brace_fold.proofs.scene.Scene.gather.Given as goal

abbrev pub invariant-loop-next : goal.invariant-loop-next
invariant-loop-next l = record {
  from : l.from ≤ l.next;
  within : l.next ≤ length l.crowd.lanes;
  led : AreLed l.self.cells.now l.room.runs;
  full : IsFull l.crowd.depth l.lanes;
  of : (scopes : List Scope) → Stands l.self l.crowd scopes
      → AreOf l.self (deeper l.crowd.depth) scopes (lanes_inside l.crowd.depth l.lanes)
      (flat_map (into l.self l.class l.bounds) (between l.from l.next scopes));
  stretches : spread l.stretches.items
      ≡ map (λ (k : Lane). k.this) (lanes_inside l.crowd.depth l.lanes);
}

abbrev pub decreases-loop-next : goal.decreases-loop-next
decreases-loop-next l = length l.crowd.lanes - l.next
