use Rattle.std.specs.List.{sum_by}
use Rattle.brace_core.specs.Schedule.{front}
use Rattle.brace_core.specs.Exchanges.{turns_left}
use Rattle.brace_core.proofs.OrderLemmas.{IsRunning}
use Rattle.brace_core.proofs.order.run_in_order.Given as goal

abbrev pub invariant-loop-number : goal.invariant-loop-number
invariant-loop-number g l =
    IsRunning g.A.Actor.setting g.A.Actor.number g.A.Actor.past g.A.Actor.opening g.F.Freight.schedule l.end l.initial.lanes.setting l.order l.initial.actors
    l.initial.lanes l.actors l.lanes l.generator

-- how many turns are left
abbrev pub decreases-loop-number : goal.decreases-loop-number
decreases-loop-number g l = sum_by (turns_left g.A.Actor.setting g.A.Actor.number g.A.Actor.past (λ s. front (g.F.Freight.schedule s) l.end)) l.actors
