use Rattle.std.proofs.Common.{◌+◌, ◌*◌, length}
use Rattle.std.specs.List.{sum_by}
use Rattle.brace_core.specs.Schedule.{front}
use Rattle.brace_core.specs.Exchanges.{turns_left}
use Rattle.brace_pieces.specs.Steps.{schedule}
use Rattle.brace_wire.specs.Hope.{all_hope}
use Rattle.brace_wire.proofs.RunLemmas.{IsRunning}
use Rattle.brace_wire.proofs.run.run_over_links.Given as goal

abbrev pub invariant-loop-number : goal.invariant-loop-number
invariant-loop-number g l =
    IsRunning g.A.Actor.setting g.A.Actor.number g.A.Actor.past g.A.Actor.opening l.end l.initial.lanes.setting l.initial.lanes.fates l.initial.actors l.actors l.lanes

-- how many turns are left, and how many rounds may be needed
abbrev pub decreases-loop-number : goal.decreases-loop-number
decreases-loop-number g l =
    sum_by (turns_left g.A.Actor.setting g.A.Actor.number g.A.Actor.past (λ s. front (schedule s) l.end)) l.actors * (length l.initial.lanes.fates + 2) + all_hope l.lanes
