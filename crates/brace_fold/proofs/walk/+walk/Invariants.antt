use Rattle.std.proofs.Common.{◌≤◌, ◌-◌, List, flat_map, take, drop, length}
use Rattle.brace_model.specs.Value.{Scope}
use Rattle.brace_fold.specs.declared.table.Table.{Table}
use Rattle.brace_fold.specs.inner.Crowds.{Stands}
use Rattle.brace_fold.specs.inner.Deeds.{Does, done_by, into}
use Rattle.brace_fold.specs.inner.Sights.{AreLed}
use Rattle.brace_fold.proofs.walk.+walk.Given as goal

abbrev pub invariant-block-loop-item : goal.invariant-block-loop-item
invariant-block-loop-item l = (scopes : List Scope) → Stands l.scene l.fn.crowd scopes
    → (here : List Scope) × Stands l.scene l.crowd here
    × ((end : Table) → Does l.scene (done_by l.scene (drop l.item-index l.actions)) here l.heard end
    → Does l.scene (done_by l.scene l.actions) scopes l.fn.heard end)

abbrev pub invariant-iterations-loop-at : goal.invariant-iterations-loop-at
invariant-iterations-loop-at l = record {
  within : l.at ≤ length l.crowd.lanes;
  led : AreLed l.scene.cells.now l.room.runs;
  done : (scopes : List Scope) → Stands l.scene l.crowd scopes
      → Does l.scene (done_by l.scene l.body) (flat_map (into l.scene l.class l.bounds) (take l.at scopes)) l.fn.heard l.heard;
}

abbrev pub decreases-iterations-loop-at : goal.decreases-iterations-loop-at
decreases-iterations-loop-at l = length l.crowd.lanes - l.at
