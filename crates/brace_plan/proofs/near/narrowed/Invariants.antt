use Rattle.std.proofs.Common.{◌≡◌, ℕ, drop, true}
use Rattle.std.specs.List.{list_all}
use Rattle.brace_grid.specs.Grids.{Point, is_inside}
use Rattle.brace_plan.specs.Acts.{meets}
use Rattle.brace_plan.specs.inner.Walks.{scope_at, IsPartOf}
use Rattle.brace_plan.proofs.near.narrowed.Given as goal

abbrev pub invariant-loop-bound : goal.invariant-loop-bound
invariant-loop-bound l = record {
  holds : (seed : ℕ) (p : Point) → list_all (meets (scope_at l.scene l.seat seed l.locals) p) l.bounds ≡ true
      → is_inside l.fn.area p ≡ true
      → (is_inside l.left p ≡ true) × (list_all (meets (scope_at l.scene l.seat seed l.locals) p) (drop l.bound-index l.bounds) ≡ true);
  part : IsPartOf l.left l.fn.area;
}
