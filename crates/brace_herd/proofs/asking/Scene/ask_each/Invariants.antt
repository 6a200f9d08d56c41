use Rattle.std.proofs.Common.{◌≡◌, take, List}
use Rattle.brace_model.specs.declared.world.Agent.{Agent}
use Rattle.brace_herd.specs.inner.Asked.{AreAsked, HearsAllOf}
use Rattle.brace_herd.proofs.asking.Scene.ask_each.Given as goal

abbrev pub invariant-loop-one : goal.invariant-loop-one
invariant-loop-one l = record {
  heard : (asking : List Agent) → AreAsked l.self.held.now asking l.asked
      → HearsAllOf l.self l.plans l.fn.hearing.room (take l.one-index asking) l.fn.hearing.heard l.hearing.heard;
  seed : l.hearing.room ≡ l.fn.hearing.room;
}
