use Rattle.std.proofs.Common.{◌≡◌, ◌≤◌, ◌+◌, ◌++◌, [], length, take}
use Rattle.brace_fold.specs.inner.Sights.{found_in}
use Rattle.brace_fold.proofs.seeing.scan_into.Given as goal

abbrev pub invariant-loop-spot : goal.invariant-loop-spot
invariant-loop-spot l = record {
  within : l.count ≤ l.from + l.spot-index;
  room : l.from + length l.spots ≤ length l.out;
  so_far : take l.count l.out ≡ take l.from l.initial.out ++ found_in l.eye [] (take l.spot-index l.spots);
}
