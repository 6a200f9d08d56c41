use Rattle.std.proofs.Common.{◌≡◌, ◌+◌, ◌-◌, ◌<◌, ◌≤◌, ◌++◌, ℕ, map, take, drop, length, get_or, true}
use Rattle.std.specs.List.{filter}
use Rattle.brace_grid.specs.declared.cells.Spot.{Spot}
use Rattle.brace_grid.specs.inner.Search.{is_spot_inside, is_up_to}
use Rattle.brace_grid.proofs.search.gather.Given as goal

abbrev pub invariant-loop-i : goal.invariant-loop-i
invariant-loop-i g l = record {
  found : l.out.items ≡ l.fn.out.items ++ map (λ s. s.index) (filter (is_spot_inside l.area) (take (l.i - l.start) (drop l.start l.spots)));
  steps : l.steps ≡ l.fn.steps + (l.i - l.start);
  low : l.start ≤ l.i;
  small : l.i ≤ length l.spots;
  walked : (k : ℕ) (d : Spot) → l.start ≤ k → k < l.i → is_up_to l.column l.north (get_or l.spots k d) ≡ true;
}
