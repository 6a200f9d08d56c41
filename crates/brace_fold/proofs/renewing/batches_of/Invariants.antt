use Rattle.std.proofs.Common.{◌≡◌, ◌≤◌, ◌-◌, ℤ, List, length, map}
use Rattle.std.specs.List.{All}
use Rattle.brace_model.specs.declared.world.Agent.{Agent}
use Rattle.brace_fold.specs.inner.Renewals.{HasReach}
use Rattle.brace_fold.proofs.RenewLemmas.{Follows}
use Rattle.brace_fold.proofs.renewing.batches_of.Given as goal

abbrev pub invariant-loop-from : goal.invariant-loop-from
invariant-loop-from l = record {
  reach : All HasReach l.batches.items;
  within : l.from ≤ length l.agents;
  renews : (totals : Agent → List ℤ) → map (λ r. r.now) l.rows ≡ map totals l.agents
      → Follows l.ground.plans.now l.ground.seed l.ground.tick totals l.agents l.from l.batches.items l.born.items l.fn.born.items;
}

abbrev pub decreases-loop-from : goal.decreases-loop-from
decreases-loop-from l = length l.agents - l.from
