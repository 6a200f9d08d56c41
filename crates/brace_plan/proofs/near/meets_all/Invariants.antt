use Rattle.std.proofs.Common.{◌≡◌, ℕ, drop}
use Rattle.std.specs.List.{list_all}
use Rattle.brace_grid.specs.Grids.{place_of}
use Rattle.brace_plan.specs.Acts.{meets}
use Rattle.brace_plan.specs.inner.Walks.{scope_at}
use Rattle.brace_plan.proofs.near.meets_all.Given as goal

abbrev pub invariant-loop-bound : goal.invariant-loop-bound
invariant-loop-bound l = (seed : ℕ)
    → list_all (meets (scope_at l.scene l.seat seed l.locals) (place_of l.scene.program.now l.b)) (drop l.bound-index l.bounds)
    ≡ list_all (meets (scope_at l.scene l.seat seed l.locals) (place_of l.scene.program.now l.b)) l.bounds
