use Rattle.std.proofs.Common.{◌≤◌, ℤ, List, length, take}
use Rattle.std.specs.Vec.{vec_capacity, vec_len}
use Rattle.brace_num.specs.declared.kinds.Area.{Area}
use Rattle.brace_model.specs.declared.world.Agent.{Agent}
use Rattle.brace_fold.specs.Rows.{AreMoved}
use Rattle.brace_herd.specs.inner.Near.{AreAxes, AreNear, IsWidened}
use Rattle.brace_herd.proofs.near.rows_near.Given as goal

abbrev pub invariant-loop-row : goal.invariant-loop-row
invariant-loop-row l = record {
  axes : AreAxes l.program l.rows l.axes;
  few : vec_len l.near ≤ l.row;
  room : length l.rows.classes.items ≤ vec_capacity l.near;
  near : (area : Area) (range : ℤ) (agents : List Agent) → IsWidened area range l.wide
      → AreMoved agents l.rows → AreNear l.program area range agents (take l.row agents) l.near.items;
}
