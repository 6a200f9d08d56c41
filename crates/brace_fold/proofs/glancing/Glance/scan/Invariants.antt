use Rattle.std.proofs.Common.{◌≡◌, ◌≤◌, ◌+◌, ◌*◌, ◌++◌, List, [], length, take}
use Rattle.brace_fold.specs.declared.cells.Spot.{Spot}
use Rattle.brace_fold.specs.declared.seeing.Eye.{Eye}
use Rattle.brace_fold.specs.inner.Glances.{AreClear, IsSquare}
use Rattle.brace_fold.specs.inner.Sights.{found_in, spots_along}
use Rattle.brace_fold.proofs.glancing.Glance.scan.Given as goal

abbrev pub invariant-loop-four : goal.invariant-loop-four
invariant-loop-four l = record {
  most : l.four ≤ l.fours;
  within : l.count ≤ l.from + 4 * l.four;
  room : l.from + 4 * l.fours ≤ length l.out;
  so_far : (spots : List Spot) (eye : Eye) → IsSquare eye l.fn.square
      → AreClear eye l.xs l.ys l.fn.run.start l.fn.run.end spots
      → take l.count l.out
      ≡ take l.from l.fn.out ++ found_in eye [] (take (4 * l.four) (spots_along l.fn.run spots));
}
