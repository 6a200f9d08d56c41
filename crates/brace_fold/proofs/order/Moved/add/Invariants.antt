use Rattle.std.proofs.Common.{◌≡◌, ◌++◌, List, length, take}
use Rattle.brace_model.specs.declared.world.Agent.{Agent}
use Rattle.brace_fold.specs.Rows.{AreMoved}
use Rattle.brace_fold.proofs.order.Moved.add.Given as goal

abbrev pub invariant-loop-place : goal.invariant-loop-place
invariant-loop-place l = record {
  moved : (agents : List Agent) → AreMoved agents l.initial.self
      → AreMoved (agents ++ take l.place l.more) l.self;
  wide : length l.self.states.items ≡ length l.initial.self.states.items;
}
