use Rattle.std.proofs.Common.{◌≡◌, All, List, map, length}
use Rattle.brace_model.specs.declared.world.Agent.{Agent}
use Rattle.brace_fold.specs.inner.Asks.{AreDrawn}
use Rattle.brace_fold.proofs.drawn.drawn_of.Given as goal

abbrev pub invariant-loop-rest : goal.invariant-loop-rest
invariant-loop-rest l = (agents : List Agent) → l.ids ≡ map (λ (a : Agent). a.id) agents
    → All (AreDrawn l.seed l.tick agents) l.all.items

abbrev pub decreases-loop-rest : goal.decreases-loop-rest
decreases-loop-rest l = length l.rest

abbrev pub invariant-loop-last : goal.invariant-loop-last
invariant-loop-last l = (agents : List Agent) → l.ids ≡ map (λ (a : Agent). a.id) agents
    → All (AreDrawn l.seed l.tick agents) l.all.items
